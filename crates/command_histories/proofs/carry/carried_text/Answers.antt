use Rattle.std.proofs.Common.{◌≡◌, ◌≤◌, ℕ, length, vec_len, subst, rules}
use Rattle.csub_semantics.specs.Syntax.{program_tree}
use Rattle.test_history.specs.Causes.{HasTextCause}
use Rattle.test_history.specs.declared.error.HistoryTextError.TheVariants.{TooLong}
use Rattle.command_histories.proofs.Carrying.{carried_text, carried_too_long}
use Rattle.command_histories.proofs.carry.carried_text.Goals as goal

pub write_history-requires : goal.write_history-requires
write_history-requires g c = c.in_ok-carried.ensures.readable.within

pub returns-in-Ok : goal.returns-in-Ok
returns-in-Ok g c =
    let P = program_tree c.args.versions.now.old in
    let P' = program_tree c.args.versions.now.new in
    let selected = c.in_ok-selection.ensures in
    let counted : vec_len c.in-Ok.text ≡ length c.in-Ok.text.items = search rules in
    record {
      text =
          carried_text c.args.versions.now.source.items c.args.versions.now.new_source.items c.args.bytes.now P P' c.in_ok-selection.selection c.in_ok-carried.carried selected
          c.requires.accepted (c.carried_is_recorded.ensures P P' selected.graphs.old.valid selected.graphs.new.valid) c.in_ok-carried.ensures.carried c.in_ok-carried.ensures.readable
          c.in-Ok.text.items c.in-Ok.ensures.text;
      short = subst (λ (n : ℕ). n ≤ 134217728) counted c.in-Ok.ensures.short;
    }

pub returns-in-Err-TooLong : goal.returns-in-Err-TooLong
returns-in-Err-TooLong g c =
    let P = program_tree c.args.versions.now.old in
    let P' = program_tree c.args.versions.now.new in
    let selected = c.in_ok-selection.ensures in
    let why : HasTextCause c.in_ok-carried.carried (TooLong c.in-Err-TooLong.count) = rw c.in-Err-TooLong.field-0-is at c.in-Err-TooLong.ensures.cause in
    carried_too_long c.args.versions.now.source.items c.args.versions.now.new_source.items c.args.bytes.now P P' c.in_ok-selection.selection c.in_ok-carried.carried selected
    c.requires.accepted (c.carried_is_recorded.ensures P P' selected.graphs.old.valid selected.graphs.new.valid) c.in_ok-carried.ensures.carried c.in_ok-carried.ensures.readable c.in-Err-TooLong.count why
