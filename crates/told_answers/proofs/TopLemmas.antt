-- The answer of the top call, where the files are told.
use Rattle.std.proofs.Common.{◌≡◌, ◌++◌, ℕ, List, [], Option, Some, unwrap_or, sym, ap, ◌∙◌}
use Rattle.dv_outside.specs.Outside.{Files, Answer, AreTold, failures}
use Rattle.command_words.specs.Words.{command_of}
use Rattle.command_files.specs.Files.{Sees}
use Rattle.dejavu_cli.specs.Answers as answers
use Rattle.dejavu_cli.specs.declared.answer.End.{End}
use Rattle.dejavu_cli.specs.declared.status.Status8.{Status8}
use Rattle.told_answers.specs.Answers.{Decides, Says, IsHeadline}
use Rattle.told_answers.specs.Complete.{IsComplete}
use Rattle.told_answers.proofs.ToldLemmas.{text_of, decided, says}
use Rattle.told_answers.proofs.CompleteLemmas.{complete}

module _ (words : List (List ℕ)) (told : Option Files) (a z : List Answer) (are : AreTold told z) (faults faults' : List ℕ → ℕ)
    (is_faults : (name : List ℕ) → faults name ≡ failures a name) (is_faults' : (name : List ℕ) → faults' name ≡ failures z name)
    (before now : Option (List ℕ)) (taken taken' : List ℕ) (is_before : (bytes : List ℕ) → before ≡ Some bytes → before ≡ Some taken)
    (is_now : (bytes : List ℕ) → before ≡ Some bytes → now ≡ Some taken') (back : (bytes : List ℕ) → now ≡ Some bytes → before ≡ Some taken)
    (fb fn : ℕ) (answer : Status8) where
  pub answer_told : Sees a z (λ seen. (s : Status8) × (text : List ℕ) × answers.Decides words seen s text × answers.Says taken taken' fb fn s text answer)
      → (s : Status8) × (text : List ℕ) × Decides words told faults faults' s text × Says before now fb fn s text answer
  answer_told (seen, added, (s, text, decides, said)) = (
    s,
    text,
    decided told z a seen added are faults faults' is_faults is_faults' words s text decides,
    says before now taken taken' is_before is_now back fb fn s text answer said,
  )

  pub complete_told : Sees a z (λ seen. (s : Status8) × (text : List ℕ) × answers.Decides words seen s text × answers.Says taken taken' fb fn s text answer)
      → IsComplete words told faults faults' fb fn answer
  complete_told sees =
      let here = answer_told sees in
      complete words told faults faults' before now fb fn answer here.0 here.1 here.2 here.3

  pub headline_told : (end : End) → answers.IsHeadline words a z taken taken' end → IsHeadline words told before now end
  headline_told end (seen, added, (text, has, takes)) written held = (
    text,
    text_of told z a seen added are faults faults' is_faults is_faults' (command_of words) end text has,
    is_now written held ∙ ap Some (takes ∙ ap (λ front. front ++ text) (sym (ap (λ o. unwrap_or o []) (sym held ∙ is_before written held)))),
  )
