use Rattle.std.proofs.Common.{◌≡◌, ◌+◌, [], ◌∷◌, take, drop, None, Some, refl, sym, ◌∙◌, subst, inl, arith, append_assoc}
use Rattle.std.proofs.lemmas.List.{append-nil}
use Rattle.csub_lex.specs.declared.token.Token.{Token}
use Rattle.csub_lex.specs.declared.error.LexError.{LexError}
use Rattle.csub_lex.specs.declared.step.Step.TheVariants as steps
use Rattle.csub_lex.specs.Tokens.{Tokens, Fault, Names, InSource, error_of}
use Rattle.csub_lex.specs.Finding.{Gives, stuck, next}
use Rattle.csub_lex.proofs.Loop.{Moves, skip_moves, token_moves, skips_on, takes_on, faults_on, at_end, fault_here, names, in_source}
use Rattle.csub_lex.proofs.Spans.{spelled, as_many}
use Rattle.csub_lex.proofs.Only.{unique, no_fault, same_fault}
use Rattle.csub_lex.proofs.cut.lex.Goals as goal

skip_of : (c : goal.In-Ok-Skip) → Moves c.args.source.now c.cuts.at c.in-Ok-Skip.len None
skip_of c =
    let source = c.args.source.now in
    let gives : Gives (drop c.cuts.at source) (steps.Skip c.in-Ok-Skip.len) (next (take c.cuts.at source) (drop c.cuts.at source)) =
    rw (c.front.ensures, c.from.ensures) at (rw c.in-Ok-Skip.field-0-is at c.in-Ok-Skip.ensures) in
    skip_moves source c.cuts.at c.in-Ok-Skip.len c.cuts.invariant.within gives.0 gives.1

pub cuts-smaller-in-Ok-Skip : goal.cuts-smaller-in-Ok-Skip
cuts-smaller-in-Ok-Skip c = let m = skip_of c in omega (arith, m.some, m.within)

pub cuts-preserved-in-Ok-Skip : goal.cuts-preserved-in-Ok-Skip
cuts-preserved-in-Ok-Skip c =
    let source = c.args.source.now in
    let i = c.cuts.invariant in
    let m = skip_of c in
    record {
      within = m.within;
      tokens = λ more h. i.tokens more (skips_on source c.cuts.at c.in-Ok-Skip.len more m h);
      fault = λ kind place h. i.fault kind place (faults_on source c.cuts.at c.in-Ok-Skip.len None kind place m h);
    }

token_of : (c : goal.In-Ok) → Moves c.args.source.now c.cuts.at c.in-Ok-Token.len (Some c.in-Ok-Token.kind)
token_of c =
    let source = c.args.source.now in
    let gives : Gives (drop c.cuts.at source) (steps.Token c.in-Ok-Token.kind c.in-Ok-Token.len) (next (take c.cuts.at source) (drop c.cuts.at source)) =
    rw (c.front.ensures, c.from.ensures) at (rw c.in-Ok-Token.field-0-is at c.in-Ok-Token.ensures) in
    token_moves source c.cuts.at c.in-Ok-Token.len c.in-Ok-Token.kind c.cuts.invariant.within gives.0 gives.1

pub cuts-smaller : goal.cuts-smaller
cuts-smaller c = let m = token_of c in omega (arith, m.some, m.within)

pub cuts-preserved : goal.cuts-preserved
cuts-preserved c =
    let source = c.args.source.now in
    let i = c.cuts.invariant in
    let m = token_of c in
    let token : Token = record { kind = c.in-Ok-Token.kind; span = record { start = c.cuts.at; end = c.cuts.at + c.in-Ok-Token.len } } in
    record {
      within = m.within;
      tokens = λ more h. rw (c.in-Ok.ensures.items, append_assoc c.cuts.tokens.items (token ∷ []) more)
          (i.tokens (token ∷ more) (takes_on source c.cuts.at c.in-Ok-Token.len c.in-Ok-Token.kind more m h));
      fault = λ kind place h. i.fault kind place (faults_on source c.cuts.at c.in-Ok-Token.len (Some c.in-Ok-Token.kind) kind place m h);
    }

fault_of : (c : goal.After-drop-tokens-in-Ok-Stuck) → Fault [] c.args.source.now c.in-Ok-Stuck.kind c.cuts.at
fault_of c =
    let source = c.args.source.now in
    let at = c.cuts.at in
    let found : next (take at source) (drop at source) ≡ stuck c.in-Ok-Stuck.kind = rw (c.front.ensures, c.from.ensures) at (rw c.in-Ok-Stuck.field-0-is at c.in-Ok-Stuck.ensures) in
    c.cuts.invariant.fault c.in-Ok-Stuck.kind at (fault_here source at c.in-Ok-Stuck.kind c.cuts-test.true found)

pub returns-in-Ok-Stuck-clause-fault : goal.returns-in-Ok-Stuck-clause-fault
returns-in-Ok-Stuck-clause-fault c =
    subst (λ (e : LexError). Names e c.args.source.now) (sym c.error_at.ensures) (names c.in-Ok-Stuck.kind c.cuts.at c.args.source.now (fault_of c))

pub returns-in-Ok-Stuck-clause-place : goal.returns-in-Ok-Stuck-clause-place
returns-in-Ok-Stuck-clause-place c = subst (λ (e : LexError). InSource e c.args.source.now) (sym c.error_at.ensures) (in_source c.in-Ok-Stuck.kind c.cuts.at c.args.source.now c.cuts-test.true)

pub returns-in-Ok-Stuck-clause-only : goal.returns-in-Ok-Stuck-clause-only
returns-in-Ok-Stuck-clause-only c = λ tokens h. absurd (no_fault h (fault_of c))

pub returns-in-Ok-Stuck-clause-sure : goal.returns-in-Ok-Stuck-clause-sure
returns-in-Ok-Stuck-clause-sure c = λ kind place h.
    let same = same_fault (fault_of c) h in
    inl (c.error_at.ensures ∙ (λ i. error_of (same.0 i) (same.1 i)))

all_of : (c : goal.After-cuts) → Tokens [] c.args.source.now c.cuts.tokens.items
all_of c = rw append-nil at (c.cuts.invariant.tokens [] (at_end c.args.source.now c.cuts.at c.cuts-test.false))

pub returns-clause-tokens : goal.returns-clause-tokens
returns-clause-tokens c = all_of c

pub returns-clause-spans : goal.returns-clause-spans
returns-clause-spans c = spelled (all_of c) c.args.source.now refl 0 (omega arith)

pub returns-clause-few : goal.returns-clause-few
returns-clause-few c = omega (arith, as_many c.args.source.now 0 c.cuts.tokens.items (returns-clause-spans c))

pub returns-clause-only : goal.returns-clause-only
returns-clause-only c = λ tokens h. unique (all_of c) h

pub returns-clause-sure : goal.returns-clause-sure
returns-clause-sure c = λ kind place h. no_fault (all_of c) h
