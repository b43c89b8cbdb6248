mod Bodies
