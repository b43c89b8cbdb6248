-- How a format is read byte by byte. No definition of what formats mean needs this file.
use Rattle.std.specs.Prelude.{ℕ, ◌+◌, List, Option, Some, None, option_map}
use Rattle.csub_rules.specs.Formats.{conversions, conversion}
use Rattle.csub_check.specs.declared.format.Scan.{Scan}
use Rattle.csub_check.specs.declared.format.Scan.TheVariants.{Plain, Opened, Ended, Wrong}

-- how many arguments a format asks for of which the rest is still to be read
abbrev pub asked : Scan → List ℕ → Option ℕ
asked (Plain n) rest = option_map (λ m. n + m) (conversions rest)
asked (Opened n) rest = option_map (λ m. n + m) (conversion rest)
asked (Ended n) rest = Some n
asked Wrong rest = None

-- how many it asked for so far
abbrev pub held : Scan → ℕ
held (Plain n) = n
held (Opened n) = n
held (Ended n) = n
held Wrong = 0
