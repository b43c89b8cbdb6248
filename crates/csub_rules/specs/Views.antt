-- What the code's names stand for. No definition of the rules needs this file.
use Rattle.std.specs.Prelude.{map}
use Rattle.csub_objects.specs.Meaning.{type_tree}
use Rattle.csub_rules.specs.Callees as callees
use Rattle.csub_rules.specs.Library as library
use Rattle.csub_rules.specs.declared.callee.Callee.{Callee}
use Rattle.csub_rules.specs.declared.callee.Callee.TheVariants as called
use Rattle.csub_rules.specs.declared.library.LibraryName.{LibraryName}
use Rattle.csub_rules.specs.declared.library.LibraryName.TheVariants.{Getchar, Putchar, Printf, Exit, Eof}

abbrev pub the_library_name : LibraryName → library.LibraryName
the_library_name Getchar = library.getchar
the_library_name Putchar = library.putchar
the_library_name Printf = library.printf
the_library_name Exit = library.exit
the_library_name Eof = library.eof

abbrev pub the_callee : Callee → callees.Callee
the_callee called.Unknown = callees.no_function
the_callee (called.User s) = callees.user_function (map type_tree s.now.params.items) s.now.result
the_callee called.Getchar = callees.getchar_function
the_callee called.Putchar = callees.putchar_function
the_callee called.Printf = callees.printf_function
the_callee called.Exit = callees.exit_function
