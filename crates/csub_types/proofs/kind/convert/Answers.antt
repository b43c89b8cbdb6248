use Rattle.std.proofs.Common.{rules, sym, subst, ◌∙◌}
use Rattle.csub_types.proofs.ConversionLemmas.{convert_of_kind, convert_congruent, convert_same}
use Rattle.csub_types.specs.Kinds.{IsOf, IsCongruent}
use Rattle.csub_types.proofs.kind.convert.Goals as goal

pub returns-in-Char-clause-value : goal.returns-in-Char-clause-value
returns-in-Char-clause-value c = search rules

pub returns-in-Char-clause-of_kind : goal.returns-in-Char-clause-of_kind
returns-in-Char-clause-of_kind c = subst (IsOf c.args.kind) (sym (returns-in-Char-clause-value c)) (convert_of_kind c.args.kind c.args.a)

pub returns-in-Char-clause-congruent : goal.returns-in-Char-clause-congruent
returns-in-Char-clause-congruent c = subst (IsCongruent c.args.kind c.args.a) (sym (returns-in-Char-clause-value c)) (convert_congruent c.args.kind c.args.a)

pub returns-in-Char-clause-same : goal.returns-in-Char-clause-same
returns-in-Char-clause-same c = λ f. returns-in-Char-clause-value c ∙ convert_same c.args.kind c.args.a f

pub returns-in-Int-clause-value : goal.returns-in-Int-clause-value
returns-in-Int-clause-value c = search rules

pub returns-in-Int-clause-of_kind : goal.returns-in-Int-clause-of_kind
returns-in-Int-clause-of_kind c = subst (IsOf c.args.kind) (sym (returns-in-Int-clause-value c)) (convert_of_kind c.args.kind c.args.a)

pub returns-in-Int-clause-congruent : goal.returns-in-Int-clause-congruent
returns-in-Int-clause-congruent c = subst (IsCongruent c.args.kind c.args.a) (sym (returns-in-Int-clause-value c)) (convert_congruent c.args.kind c.args.a)

pub returns-in-Int-clause-same : goal.returns-in-Int-clause-same
returns-in-Int-clause-same c = λ f. returns-in-Int-clause-value c ∙ convert_same c.args.kind c.args.a f

pub returns-in-Unsigned-clause-value : goal.returns-in-Unsigned-clause-value
returns-in-Unsigned-clause-value c = search rules

pub returns-in-Unsigned-clause-of_kind : goal.returns-in-Unsigned-clause-of_kind
returns-in-Unsigned-clause-of_kind c = subst (IsOf c.args.kind) (sym (returns-in-Unsigned-clause-value c)) (convert_of_kind c.args.kind c.args.a)

pub returns-in-Unsigned-clause-congruent : goal.returns-in-Unsigned-clause-congruent
returns-in-Unsigned-clause-congruent c = subst (IsCongruent c.args.kind c.args.a) (sym (returns-in-Unsigned-clause-value c)) (convert_congruent c.args.kind c.args.a)

pub returns-in-Unsigned-clause-same : goal.returns-in-Unsigned-clause-same
returns-in-Unsigned-clause-same c = λ f. returns-in-Unsigned-clause-value c ∙ convert_same c.args.kind c.args.a f
