-- What the code's records stand for. No definition of the limits needs this file.
use Rattle.csub_limits.specs.declared.limits.Passed.{Passed}
use Rattle.csub_limits.specs.Limits as limits

abbrev pub the_passed : Passed → limits.Passed
the_passed p = record { number = p.number; count = p.count }
