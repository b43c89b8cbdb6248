-- The names that `<stdio.h>` and `<stdlib.h>` declare here (C11 7.21 and 7.22). A name in an expression is looked for among
-- them first, so a declaration of one, which breaks M3, never tells what it means there.
use Rattle.std.specs.Prelude.{Option, Some, None, bytes_eq, codes, if◌then◌else◌}
use Rattle.csub_objects.specs.Types.{Name}

-- C11 7.21.7.6, 7.21.7.8, 7.21.6.3, 7.22.4.4 and 7.21.1p3
pub data LibraryName : Type 0 where
  getchar : LibraryName
  putchar : LibraryName
  printf : LibraryName
  exit : LibraryName
  eof : LibraryName

abbrev pub library_name : Name → Option LibraryName
library_name name =
    if bytes_eq name (codes "getchar") then Some getchar else (
    if bytes_eq name (codes "putchar") then Some putchar else (
    if bytes_eq name (codes "printf") then Some printf else (
    if bytes_eq name (codes "exit") then Some exit else (
    if bytes_eq name (codes "EOF") then Some eof else None))))
