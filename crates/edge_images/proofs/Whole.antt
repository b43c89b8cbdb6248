-- Answers when all facts of a walk have been asked.
use Rattle.std.proofs.Common.{◌≡◌, ℕ, ◌<◌, List, length, get_or, Some, All, sym, ap, ◌∙◌, arith}
use Rattle.std.specs.Prelude.{slice_get}
use Rattle.std.proofs.lemmas.Option.{slice_get_within, slice_get-get_or}
use Rattle.csub_semantics.specs.Syntax.{ProgramTree}
use Rattle.csub_semantics.specs.Flows.{Edge, edge_list, point_list}
use Rattle.csub_semantics.specs.Numbers.{Site, site, site_of, site_at, edge_at}
use Rattle.flow_graph.specs.Graph.{Tables, IsGraphOf, point_count, edge_count}
use Rattle.flow_graph.proofs.LawsLists.{made_of}
use Rattle.flow_graph.proofs.LawsPlaces.{points_counted, edges_counted}
use Rattle.dual_walk.specs.declared.fact.Fact.{Fact}
use Rattle.dual_walk.specs.declared.fact.Why.TheVariants.{Start}
use Rattle.dual_walk.specs.Books.{IsNamed}
use Rattle.dual_walk.specs.Held.{AreAt, IsHeld}
use Rattle.dual_walk.proofs.LawsLists.{get_some}
use Rattle.call_walk.specs.declared.answer.WalkResult.{WalkResult}
use Rattle.call_walk.specs.Walks.{IsWalk}
use Rattle.call_walk.proofs.LawsWalks.{held_reached, reached_held}
use Rattle.edge_images.specs.declared.image.Image.{Image}
use Rattle.edge_images.specs.declared.image.Image.TheVariants.{Absent, One, Many}
use Rattle.edge_images.specs.Images.{IsImageAt, Says, AreImages, IsBelow}
use Rattle.edge_images.specs.Partly.{IsImageBefore, Answers}
use Rattle.edge_images.proofs.Saying.{says_same, says_one}

-- the numbers of points of a program are those of its graph
point_below : (g : Tables) (P : ProgramTree) (n : ℕ) (s : Site) → IsGraphOf g P → site_at P n ≡ Some s → n < point_count g
point_below g P n s ok e =
    let made = made_of site_of (slice_get (point_list P) n) s e in
    let l = slice_get_within (point_list P) n made.value made.is in
    omega (arith, l, points_counted g P ok)

edge_below : (g : Tables) (P : ProgramTree) (e : ℕ) (edge : Edge) → IsGraphOf g P → edge_at P e ≡ Some edge → e < edge_count g
edge_below g P e edge ok is =
    let l = slice_get_within (edge_list P) e edge is in
    omega (arith, l, edges_counted g P ok)

-- the fact of a turn of a loop over facts
abbrev pub first_fact : Fact
first_fact = record { function = 0; old = 0; new = 0; why = Start }

pub fact_stands : (facts items : List Fact) (i : ℕ) → items ≡ facts → i < length items → slice_get facts i ≡ Some (get_or items i first_fact)
fact_stands facts items i is within = ap (λ l. slice_get l i) (sym is) ∙ slice_get-get_or items i first_fact within

module _ (P P' : ProgramTree) (walked : WalkResult) (walk : IsWalk P P' walked) where
  abbrev facts : List Fact
  facts = walked.facts.items

  pub fact_named : (i : ℕ) (c : Fact) → slice_get facts i ≡ Some c → IsNamed P P' c
  fact_named i c e = (walk.reasons i c e).named

  by_fact : (e i : ℕ) → IsImageBefore P P' facts (length facts) e i → IsImageAt P P' e i
  by_fact e i h =
      let b = h.by in
      let at : AreAt P P' h.fact.old h.fact.new b.old.function b.old.from b.new.from = record { old = b.from; new = b.from' ∙ ap (λ f. Some (site f b.new.from)) (sym b.function) } in
      let held : IsHeld P P' facts b.old.function b.old.from b.new.from = record { place = h.place; fact = h.fact; stands = h.stands; at = at } in
      record {
        old = b.old;
        new = b.new;
        numbered = b.numbered;
        numbered' = b.numbered';
        image = record { function = b.function; exit = b.exit; pair = held_reached P P' walked walk b.old.function b.old.from b.new.from held };
      }

  fact_by : (e i : ℕ) → IsImageAt P P' e i → IsImageBefore P P' facts (length facts) e i
  fact_by e i h =
      let held = reached_held P P' walked walk h.old.function h.old.from h.new.from h.image.pair in
      record {
        place = held.place;
        fact = held.fact;
        before = slice_get_within facts held.place held.fact held.stands;
        stands = held.stands;
        by =
            record {
              old = h.old;
              new = h.new;
              numbered = h.numbered;
              numbered' = h.numbered';
              function = h.image.function;
              exit = h.image.exit;
              from = held.at.old;
              from' = held.at.new ∙ ap (λ f. Some (site f h.new.from)) h.image.function;
            };
      }

  pub fact_within : (g g' : Tables) → IsGraphOf g P → IsGraphOf g' P' → (i : ℕ) (c : Fact) → slice_get facts i ≡ Some c → (c.old < point_count g) × (c.new < point_count g')
  fact_within g g' ok ok' i c stands =
      let n = fact_named i c stands in
      (point_below g P c.old (site n.name n.point) ok n.old, point_below g' P' c.new (site n.name n.other) ok' n.new)

  module _ (g g' : Tables) (ok : IsGraphOf g P) (ok' : IsGraphOf g' P') (images : List Image) (edges : length images ≡ edge_count g) (h : Answers images (IsImageBefore P P' facts (length facts))) where
    said : (e : ℕ) (image : Image) → slice_get images e ≡ Some image → Says (IsImageAt P P' e) image
    said e image stands = says_same (IsImageBefore P P' facts (length facts) e) (IsImageAt P P' e) (by_fact e) (fact_by e) image (h e image stands)

    pub are_images : AreImages P P' images
    are_images = record { edges = edges ∙ edges_counted g P ok; each = λ e image within. (said e image, λ says. only e image within says) }
      where
        only : (e : ℕ) (image : Image) → e < length (edge_list P) → Says (IsImageAt P P' e) image → slice_get images e ≡ Some image
        only e image within says =
            let there = get_some images e (omega (arith, edges, edges_counted g P ok, within)) in
            there.1 ∙ ap Some (says_one (IsImageAt P P' e) there.0 image (said e there.0 there.1) says)

    below_one : (e : ℕ) (image : Image) → Says (IsImageAt P P' e) image → IsBelow (edge_count g') image
    below_one e Absent says = tt
    below_one e (One i) says = edge_below g' P' i says.0.new ok' says.0.numbered'
    below_one e Many says = tt

    pub are_below : All (IsBelow (edge_count g')) images
    are_below k d l = below_one k (get_or images k d) (said k (get_or images k d) (slice_get-get_or images k d l))
