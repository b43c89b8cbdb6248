-- An initialiser writes cells of its object alone, and reads what its expressions read.
use Rattle.std.proofs.Common.{ℕ, zero, suc, ◌+◌, ◌-◌, pos, Bool}
use Rattle.csub_types.specs.Kinds.{convert}
use Rattle.csub_objects.specs.Types.{TypeTree, number_type, array_type, struct_type, loose_type, number_kind, MemberTrees, no_member, more_members}
use Rattle.csub_semantics.specs.Labels.{InitTree, one_value, listed, InitTrees, no_init, more_inits}
use Rattle.csub_semantics.specs.Cells.{Root, Cells, number, Spot, element_spot, member_spot}
use Rattle.csub_semantics.specs.Initialising.{each_from, zeroed, zeroed_members, zeroed_elements, initialise, initialise_elements, initialise_members}
use Rattle.csub_semantics.specs.Acts.{Store}
use Rattle.call_walk.specs.Shared.{Agree}
use Rattle.call_walk.specs.Locality.{HasFrames, CoversInit, CoversInits}
use Rattle.call_walk.proofs.Agreeing.{number_inside, agree_written}
use Rattle.call_walk.proofs.Evaluating.{SameAnswer, both_give, then_same, IsAny, same_eval}

module _ (S : Root → Bool) where
  -- one change of the cells of two stores keeps that they agree
  abbrev KeepsAgreeing : (Cells → Cells) → Type 0
  KeepsAgreeing f = (s s' : Store) → Agree S s s' → Agree S (record s { cells = f s.cells }) (record s' { cells = f s'.cells })

  keeps_each : (f : ℕ → Cells → Cells) → ((i : ℕ) → KeepsAgreeing (f i)) → (n i : ℕ) → KeepsAgreeing (each_from f n i)
  keeps_each f keeps zero i s s' agree = agree
  keeps_each f keeps (suc n) i s s' agree = keeps_each f keeps n (i + 1) (record s { cells = f i s.cells }) (record s' { cells = f i s'.cells }) (keeps i s s' agree)

  mutual
    keeps_zeroed : (t : TypeTree) (l : Spot) → KeepsAgreeing (zeroed t l)
    keeps_zeroed (number_type k) l s s' agree = agree_written S l.cell (number (pos 0)) s s' (number_inside S (pos 0)) agree
    keeps_zeroed (array_type t n) l s s' agree = keeps_each (λ i. zeroed t (element_spot l i)) (λ i. keeps_zeroed t (element_spot l i)) n 0 s s' agree
    keeps_zeroed (struct_type tag ms) l s s' agree = keeps_members ms l s s' agree
    keeps_zeroed (loose_type t) l s s' agree = agree

    keeps_members : (ms : MemberTrees) (l : Spot) → KeepsAgreeing (zeroed_members ms l)
    keeps_members no_member l s s' agree = agree
    keeps_members (more_members x t rest) l s s' agree =
        let at = member_spot l x in
        keeps_members rest l (record s { cells = zeroed t at s.cells }) (record s' { cells = zeroed t at s'.cells }) (keeps_zeroed t at s s' agree)

  keeps_elements : (t : TypeTree) (n i : ℕ) (l : Spot) → KeepsAgreeing (zeroed_elements t n i l)
  keeps_elements t n i l s s' agree = keeps_each (λ j. zeroed t (element_spot l j)) (λ j. keeps_zeroed t (element_spot l j)) (n - i) i s s' agree

module _ (S : Root → Bool) (frames : HasFrames S) (h : ℕ) where
  mutual
    pub same_initialise : (init : InitTree) (t : TypeTree) (l : Spot) (s s' : Store) → CoversInit S init → Agree S s s' → SameAnswer IsAny (Agree S) (initialise h init t l s) (initialise h init t l s')
    same_initialise (one_value e) t l s s' covers agree =
        then_same (same_eval S frames h e s s' covers agree)
        (λ v u u' q r. let stored = convert (number_kind l.ctype) v in both_give tt (agree_written S l.cell (number stored) u u' (number_inside S stored) r))
    same_initialise (listed xs) (number_type k) l s s' covers agree = both_give tt agree
    same_initialise (listed xs) (array_type t n) l s s' covers agree = same_elements xs t n 0 l s s' covers agree
    same_initialise (listed xs) (struct_type tag ms) l s s' covers agree = same_members xs ms l s s' covers agree
    same_initialise (listed xs) (loose_type t) l s s' covers agree = both_give tt agree

    same_elements : (xs : InitTrees) (t : TypeTree) (n i : ℕ) (l : Spot) (s s' : Store) → CoversInits S xs → Agree S s s'
        → SameAnswer IsAny (Agree S) (initialise_elements h xs t n i l s) (initialise_elements h xs t n i l s')
    same_elements no_init t n i l s s' covers agree = both_give tt (keeps_elements S t n i l s s' agree)
    same_elements (more_inits x rest) t n i l s s' covers agree =
        then_same (same_initialise x t (element_spot l i) s s' covers.0 agree) (λ v u u' q r. same_elements rest t n (i + 1) l u u' covers.1 r)

    same_members : (xs : InitTrees) (ms : MemberTrees) (l : Spot) (s s' : Store) → CoversInits S xs → Agree S s s'
        → SameAnswer IsAny (Agree S) (initialise_members h xs ms l s) (initialise_members h xs ms l s')
    same_members no_init ms l s s' covers agree = both_give tt (keeps_members S ms l s s' agree)
    same_members (more_inits x rest) no_member l s s' covers agree = both_give tt agree
    same_members (more_inits x rest) (more_members a t ms) l s s' covers agree =
        then_same (same_initialise x t (member_spot l a) s s' covers.0 agree) (λ v u u' q r. same_members rest ms l u u' covers.1 r)
