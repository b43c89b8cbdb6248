-- What shows the danger of an edge in a list shows it in the part that it needs, and nothing else stands there.
use Rattle.std.proofs.Common.{◌≡◌, ℕ, ◌<◌, List, [], ◌∷◌, length, Option, Some, None, option_map, unwrap_or, refl, sym, ap, ◌∙◌, subst, ◌⊎◌, inl, inr, arith}
use Rattle.std.specs.Prelude.{slice_get, slice_index, Contains}
use Rattle.std.proofs.lemmas.Option.{same_Some}
use Rattle.csub_objects.specs.Types.{Name}
use Rattle.csub_semantics.specs.Points.{PointTree}
use Rattle.csub_semantics.specs.Syntax.{ProgramTree}
use Rattle.csub_semantics.specs.Flows.{Edge}
use Rattle.csub_semantics.specs.Numbers.{site_at}
use Rattle.dual_walk.specs.declared.fact.Fact.{Fact}
use Rattle.dual_walk.specs.declared.fact.Why.{Why}
use Rattle.dual_walk.specs.declared.fact.Why.TheVariants.{Start, Step, Call, Over}
use Rattle.explain_report.specs.declared.part.Part.{Part}
use Rattle.explain_report.specs.declared.shown.Shown.{Shown}
use Rattle.explain_report.specs.Trims.{named_places, RestOnEarlier, Needed, SameReason, IsMoved}
use Rattle.explain_report.specs.Trims.Needed.{is_wanted, is_named}
use Rattle.dual_walk.specs.Books.{AreReasoned}
use Rattle.explain_report.specs.Explanations.{ComesBackBy, Shows, AreUsed}
use Rattle.explain_report.specs.Parts.{IsPartOf}
use Rattle.explain_report.specs.Dangers.{IsShown, Argues}
use Rattle.dual_walk.proofs.LawsLists.{get_some, contained, contains_at}
use Rattle.explain_report.proofs.Places.{zip_long, zip_right, one_place, two_places, places_before, places_once}
use Rattle.explain_report.proofs.TrimLemmas.{trimmed_reasoned}

-- what a reason names, the same reason in a part names at its place there
record NamesThere (places : List ℕ) (other : Why) (p : ℕ) : Type 0 where
  place : ℕ
  stands : slice_get places place ≡ Some p
  named : Contains (named_places other) place

named_there : (places : List ℕ) (p : ℕ) (why other : Why) → SameReason places why other → Contains (named_places why) p → NamesThere places other p
named_there places p Start Start s k = absurd (omega (arith, k.1))
named_there places p (Step j e) (Step a d) s k = record { place = a; stands = s.0 ∙ ap Some (sym (one_place j p k)); named = (0, omega arith, refl) }
named_there places p (Call j) (Call a) s k = record { place = a; stands = s ∙ ap Some (sym (one_place j p k)); named = (0, omega arith, refl) }
named_there places p (Over j m) (Over a b) s k = pick (two_places j m p k)
  where
    pick : (p ≡ j) ⊎ (p ≡ m) → NamesThere places (Over a b) p
    pick (inl e) = record { place = a; stands = s.0 ∙ ap Some (sym e); named = (0, omega arith, refl) }
    pick (inr e) = record { place = b; stands = s.1 ∙ ap Some (sym e); named = (1, omega arith, refl) }
named_there places p why other s k = absurd s

-- the wanted places
abbrev pub wanted_by : ℕ → Option ℕ → List ℕ
wanted_by place back = place ∷ unwrap_or back place ∷ []

module _ (facts : List Fact) (place : ℕ) (back : Option ℕ) (part : Part) (h : IsPartOf facts (wanted_by place back) part) where
  abbrev kept : List Fact
  kept = part.facts.items

  abbrev there : ℕ → ℕ
  there i = slice_index part.table.items i

  -- the fact at a wanted place stands in the part
  record StandsThere (i : ℕ) (c : Fact) : Type 0 where
    fact : Fact
    stands : slice_get kept (there i) ≡ Some fact
    old : fact.old ≡ c.old
    new : fact.new ≡ c.new

  stands_there : (i : ℕ) (c : Fact) → Contains (wanted_by place back) i → slice_get facts i ≡ Some c → StandsThere i c
  stands_there i c k e =
      let z = zip_right (IsMoved facts h.trimmed.places) h.trimmed.places kept (there i) i h.trimmed.moved (h.table i k) in
      let same : z.2.fact ≡ c = same_Some z.2.fact c (sym z.2.stands ∙ e) in
      record { fact = z.0; stands = z.1; old = z.2.old ∙ ap (λ (d : Fact). d.old) same; new = z.2.new ∙ ap (λ (d : Fact). d.new) same }

  module _ (P P' : ProgramTree) where
    returns_there : (f : Name) (p : PointTree) (o : Option ℕ) → ((i : ℕ) → o ≡ Some i → Contains (wanted_by place back) i) → ComesBackBy P P' facts f p o → ComesBackBy P P' kept f p (option_map there o)
    returns_there f p None among r = r
    returns_there f p (Some i) among r =
        let s = stands_there i r.1 (among i refl) r.3 in
        (r.0, s.fact, r.2, s.stands, ap (site_at P) s.old ∙ r.4, ap (site_at P') s.new ∙ r.5)

    back_among : (o : Option ℕ) (i : ℕ) → o ≡ Some i → Contains (wanted_by place o) i
    back_among None i e = absurd cc
    back_among (Some j) i e = (1, omega arith, same_Some j i e)

    shows_there : (edge : Edge) (other : PointTree) → Shows P P' facts edge place back other → Shows P P' kept edge (there place) (option_map there back) other
    shows_there edge other s =
        let t = stands_there place s.fact (0, omega arith, refl) s.stands in
        record {
          fact = t.fact;
          stands = t.stands;
          old = ap (site_at P) t.old ∙ s.old;
          new = ap (site_at P') t.new ∙ s.new;
          to = s.to;
          leads = s.leads;
          parts = s.parts;
          returns = returns_there edge.function edge.from back (back_among back) s.returns;
        }

  -- each fact of the part is needed
  module _ (rest : RestOnEarlier facts) where
    abbrev UsedAt : ℕ → Type 0
    UsedAt i = (i ≡ there place) ⊎ (option_map there back ≡ Some i)
        ⊎ ((later : ℕ) × (c : Fact) × (i < later) × (slice_get kept later ≡ Some c) × Contains (named_places c.why) i)

    at_wanted : (i p : ℕ) → slice_get h.trimmed.places i ≡ Some p → Contains (wanted_by place back) p → i ≡ there p
    at_wanted i p e k = places_once h.trimmed.places h.trimmed.rising i (there p) p e (h.table p k)

    used_back : (i p : ℕ) (o : Option ℕ) → p ≡ unwrap_or o place → i ≡ there p → (i ≡ there place) ⊎ (option_map there o ≡ Some i)
    used_back i p None e at = inl (at ∙ ap there e)
    used_back i p (Some j) e at = inr (ap Some (sym (at ∙ ap there e)))

    used_by : (i p : ℕ) → slice_get h.trimmed.places i ≡ Some p → Needed facts (wanted_by place back) p → UsedAt i
    used_by i p e (is_wanted q k) = pick (two_places place (unwrap_or back place) q k)
      where
        widen : (i ≡ there place) ⊎ (option_map there back ≡ Some i) → UsedAt i
        widen (inl a) = inl a
        widen (inr a) = inr (inl a)

        pick : (q ≡ place) ⊎ (q ≡ unwrap_or back place) → UsedAt i
        pick (inl a) = inl (at_wanted i q e k ∙ ap there a)
        pick (inr a) = widen (used_back i q back a (at_wanted i q e k))
    used_by i p e (is_named j q c n stands named) =
        let l = contained h.trimmed.places j ((h.trimmed.needed j).1 n) in
        let z = zip_right (IsMoved facts h.trimmed.places) h.trimmed.places kept l.0 j h.trimmed.moved l.1 in
        let same : z.2.fact ≡ c = same_Some z.2.fact c (sym z.2.stands ∙ stands) in
        let t = named_there h.trimmed.places q z.2.fact.why z.0.why z.2.why (subst (λ (d : Fact). Contains (named_places d.why) q) (sym same) named) in
        let one : t.place ≡ i = places_once h.trimmed.places h.trimmed.rising t.place i q t.stands e in
        inr (inr (l.0, z.0, places_before h.trimmed.places h.trimmed.rising l.0 i j q l.1 e (rest.earlier j q c stands named), z.1, subst (Contains (named_places z.0.why)) one t.named))

    used_there : AreUsed kept (there place) (option_map there back)
    used_there = record { each = each }
      where
        each : (i : ℕ) → i < length kept → UsedAt i
        each i l =
            let long = zip_long (IsMoved facts h.trimmed.places) h.trimmed.places kept h.trimmed.moved in
            let p = get_some h.trimmed.places i (omega arith) in
            used_by i p.0 p.1 ((h.trimmed.needed p.0).0 (contains_at h.trimmed.places i p.0 p.1))

-- the part that is needed shows the danger, and needs all that it has
pub part_argues : (facts : List Fact) (shown : Shown) (part : Part) → RestOnEarlier facts → IsPartOf facts (wanted_by shown.place shown.back) part
    → (P P' : ProgramTree) (edge : Edge) → AreReasoned P P' facts → IsShown P P' facts edge shown
    → Argues P P' part.facts.items edge (record { place = slice_index part.table.items shown.place; back = option_map (slice_index part.table.items) shown.back })
part_argues facts shown part rest h P P' edge book s = record {
  book = trimmed_reasoned P P' facts part.facts.items (wanted_by shown.place shown.back) h.trimmed book;
  shows = (s.0, shows_there facts shown.place shown.back part h P P' edge s.0 s.1);
  used = used_there facts shown.place shown.back part h rest;
}
