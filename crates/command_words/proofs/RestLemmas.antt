-- What clap answers.
use Rattle.std.proofs.Common.{◌≡◌, ◌≢◌, ◌∙◌, ℕ, inl, inr, Bool, true, false, cond, List, [], ◌∷◌, Option, Some, None, codes, length, refl, sym, ap, ap₂, unwrap_or}
use Rattle.std.specs.Prelude.{String, nat_eq}
use Rattle.std.proofs.Math.Dec.{eqb-suc-zero}
use Rattle.std.specs.Option.{option_map, option_and_then, option_to_list}
use Rattle.std.specs.declared.alloc.Global.{Global}
use Rattle.clap.specs.Kinds.{HasKind, Kinds}
use Rattle.clap.specs.Matches.{found_of}
use Rattle.clap.specs.Walk.{rows_of}
use Rattle.clap.specs.Values.{kind_of}
use Rattle.clap.specs.Simple.{matches_of}
use Rattle.clap.specs.Faults.{fault_of}
use Rattle.clap.specs.declared.error.Error.{Error}
use Rattle.clap.specs.declared.error.kind.ErrorKind.TheVariants.{OutOfMemory}
use Rattle.clap.specs.declared.parser.matches.ArgMatches.{ArgMatches}
use Rattle.clap.proofs.WalkLemmas.{first_value-rows, raw_values-rows}
use Rattle.command_words.specs.Words.{Command, Rest, rest_of, texts_of, workers_of, record_of, migrate_of, walk_of, select_of, rerun_of, explain_of, carry_of, order_of, certify_of, check_of, gen_of}
use Rattle.command_words.specs.Words.{plain_alone, two_alone, three_alone, three_with, two_plain, three_plain, command_of}
use Rattle.command_words.specs.Matches.{rest_app, rest_shown, HasNoNumber}
use Rattle.command_words.proofs.Cuts.{rest_in}
use Rattle.command_words.proofs.Walks.{clap_reads}

shown_is : (m : ArgMatches) → rest_in (rows_of (found_of m)) ≡ rest_shown m
shown_is m = ap₂ (λ words workers. record { plain = unwrap_or words []; workers = option_to_list workers }) (sym (raw_values-rows (found_of m) (codes "plain"))) (sym (first_value-rows (found_of m) (codes "workers")))

pub matches_are : (words : List (String Global)) (m : ArgMatches) → rows_of (found_of m) ≡ matches_of rest_app (texts_of words) → fault_of rest_app (texts_of words) ≡ []
    → rest_of (texts_of words) ≡ Some (rest_shown m)
matches_are words m rows clear = (clap_reads words).reads clear ∙ ap (λ rows. Some (rest_in rows)) (sym rows) ∙ ap (λ rest. Some rest) (shown_is m)

some_kind : (kinds : Kinds) (e : Error) → HasKind kinds e → kind_of e ≢ OutOfMemory → kinds ≢ []
some_kind [] e h other is = elim h [ inl memory ↦ other memory | inr none ↦ none ]
some_kind (k ∷ ks) e h other is = cc

pub refused_is : (words : List (String Global)) (e : Error) → HasKind (fault_of rest_app (texts_of words)) e → kind_of e ≢ OutOfMemory → HasNoNumber (rest_of (texts_of words))
refused_is words e h other = (clap_reads words).refuses (some_kind _ e h other)

-- ---- a rest with no number of workers is that of no command

abbrev NeedsNumber : {A : Type 0} → (Rest → Option A) → Type 0
NeedsNumber f = (rest : Rest) → workers_of rest.workers ≡ None → f rest ≡ None

-- where no word is given for it there is one worker
alone_none : NeedsNumber plain_alone
alone_none rest bad = go rest.workers bad
  where
    go : (workers : List (List ℕ)) → workers_of workers ≡ None → cond (nat_eq (length workers) 0) (Some rest.plain) None ≡ None
    go [] bad = cc
    go (word ∷ more) bad = rw (eqb-suc-zero (length more)) refl

two_none : NeedsNumber two_alone
two_none rest bad = ap (option_and_then two_plain) (alone_none rest bad)

three_none : NeedsNumber three_alone
three_none rest bad = ap (option_and_then three_plain) (alone_none rest bad)

with_none : NeedsNumber three_with
with_none rest bad = ap (option_and_then _) bad

-- whatever the name
pub no_command : (name : List ℕ) (more : List (List ℕ)) → HasNoNumber (rest_of more) → command_of (name ∷ more) ≡ None
no_command name more bad =
    named _ record_of (λ rest none. ap (option_and_then _) none)
    (named _ migrate_of (λ rest none. ap (option_map _) (two_none rest none))
    (named _ walk_of (λ rest none. ap (option_map _) (two_none rest none))
    (named _ select_of (λ rest none. ap (option_map _) (three_none rest none))
    (named _ rerun_of (λ rest none. ap (option_map _) (with_none rest none))
    (named _ explain_of (λ rest none. ap (option_and_then _) (alone_none rest none))
    (named _ carry_of (λ rest none. ap (option_map _) (with_none rest none))
    (named _ order_of (λ rest none. ap (option_map _) (with_none rest none))
    (named _ certify_of (λ rest none. ap (option_map _) (two_none rest none))
    (named _ check_of (λ rest none. ap (option_map _) (three_none rest none))
    (named _ gen_of (λ rest none. ap (option_and_then _) (two_none rest none)) refl))))))))))
  where
    of_rest : (f : Rest → Option Command) → NeedsNumber f → (o : Option Rest) → HasNoNumber o → option_and_then f o ≡ None
    of_rest f needs None bad = refl
    of_rest f needs (Some rest) bad = needs rest bad

    named : (is : Bool) (f : Rest → Option Command) → NeedsNumber f → {other : Option Command} → other ≡ None → cond is (option_and_then f (rest_of more)) other ≡ None
    named true f needs e = of_rest f needs (rest_of more) bad
    named false f needs e = e
