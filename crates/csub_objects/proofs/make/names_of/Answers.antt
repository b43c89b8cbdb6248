use Rattle.std.proofs.Common.{arith, rules, refl, List, ◌≡◌, ◌∙◌, ◌++◌, ◌∷◌, [], length, map, take, IsSome, is_some, false, ap, sym, subst}
use Rattle.std.proofs.Math.Seq.{take-length}
use Rattle.csub_objects.specs.Names.{IsNew}
use Rattle.csub_objects.specs.Types.{Name}
use Rattle.csub_objects.proofs.ListLemmas.{AreApart, other_names, same_found, names_pushed, apart_pushed, new_name}
use Rattle.csub_objects.proofs.make.names_of.Goals as goal

pub returns-then-is_some-clause-exact : goal.returns-then-is_some-clause-exact
returns-then-is_some-clause-exact c =
    let found : IsSome c.find.result = sym c.is_some.ensures ∙ c.if-is_some.true in (
      λ e. absurd (cc),
      λ h. absurd (same_found c.args.members.now c.loop-member.member-index c.member-item.result c.loop-member.names c.bytes-name.result.now c.find.result
          c.loop-member-test.true c.member-item.is c.loop-member.invariant.0 c.bytes-name.ensures c.find.ensures.some found h),
    )

pub loop-member-preserved : goal.loop-member-preserved
loop-member-preserved c =
    let missing : is_some c.find.result ≡ false = sym c.is_some.ensures ∙ c.if-is_some.false in
    let new : IsNew c.bytes-name.result.now c.loop-member.names = new_name c.loop-member.names c.bytes-name.result.now c.find.result c.find.ensures.none missing in
    let text : c.in_ok-to_vec.field-0.items ≡ c.bytes-name.result.now = search rules in
    let added : c.add.new.self ≡ c.loop-member.names ++ c.bytes-name.result.now ∷ [] = c.in_ok-add.ensures ∙ ap (λ x. c.loop-member.names ++ x ∷ []) text in (
      added ∙ names_pushed c.args.members.now c.loop-member.member-index c.member-item.result c.loop-member.names c.bytes-name.result.now
          c.loop-member-test.true c.member-item.is c.loop-member.invariant.0 c.bytes-name.ensures,
      subst (λ (xs : List Name). AreApart xs) (sym added) (apart_pushed c.loop-member.names c.bytes-name.result.now c.loop-member.invariant.1 new),
    )

pub returns-clause-exact : goal.returns-clause-exact
returns-clause-exact c =
    let end : c.loop-member.member-index ≡ length c.args.members.now = omega arith in
    let all : take c.loop-member.member-index c.args.members.now ≡ c.args.members.now = ap (λ n. take n c.args.members.now) end ∙ take-length c.args.members.now in
    let names : c.loop-member.names ≡ map (λ m. m.name) c.args.members.now = c.loop-member.invariant.0 ∙ ap (λ ms. map (λ m. m.name) ms) all in
    (λ _. other_names c.args.members.now (subst (λ (xs : List Name). AreApart xs) names c.loop-member.invariant.1), λ _. refl)
