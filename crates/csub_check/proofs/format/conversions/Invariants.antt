use Rattle.std.proofs.Common.{◌≡◌, ◌≤◌, drop}
use Rattle.csub_rules.specs.Formats.{conversions}
use Rattle.csub_check.specs.Scans.{asked, held}
use Rattle.csub_check.proofs.format.conversions.Given as goal

abbrev pub invariant-loop-byte : goal.invariant-loop-byte
invariant-loop-byte l = (asked l.scan (drop l.byte-index l.bytes) ≡ conversions l.bytes) × (held l.scan ≤ l.byte-index)
