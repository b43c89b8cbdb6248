mod Programs
