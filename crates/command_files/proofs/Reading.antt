-- From what the steps of reading answer to the versions and the third file, and to what is refused.
use Rattle.std.proofs.Common.{◌≡◌, ℕ, List, [], ◌∷◌, ◌++◌, map, Ok, Err, Vec, refl, sym, ap, ◌∙◌, inl, inr, subst, append_assoc}
use Rattle.std.specs.declared.alloc.Global.{Global}
use Rattle.dv_outside.specs.Outside.{Answer, Answers}
use Rattle.dv_outside.specs.declared.shelf.FetchError.TheVariants as fetch
use Rattle.csub_semantics.specs.Syntax.{ProgramTree, program_tree}
use Rattle.csub_answers.specs.Accepted.{Accepted}
use Rattle.command_refusals.specs.declared.refusal.Role.{Role}
use Rattle.command_refusals.specs.declared.refusal.Role.TheVariants as role
use Rattle.command_refusals.specs.declared.refusal.Refusal.{Refusal}
use Rattle.command_refusals.specs.declared.refusal.Refusal.TheVariants as refusal
use Rattle.command_files.specs.Files.{came, missed, source_and_one, Sees, AreSources, HasBadOfTwo, IsFetchCause, IsSourceCause, AreRead, Asks, IsVersionsCause, AreOpened, AreOpenCause, IsOpened, IsOpenCause}
use Rattle.command_files.specs.declared.versions.Versions.{Versions}
use Rattle.command_files.specs.declared.opening.OpenedSource.{OpenedSource}
use Rattle.command_files.specs.declared.opening.OpenedVersions.{OpenedVersions}
use Rattle.command_files.proofs.LawsRefusals.{then_seen}

-- ---- both versions

module _ (o n : List ℕ) (a b : List Answer) where
  pub no_old : (r : Refusal) → IsFetchCause a b o source_and_one r → Sees a b (λ seen. IsVersionsCause o n seen r)
  no_old refusal.ReadFault cause = (missed o source_and_one ∷ [], cause, inl refl)
  no_old refusal.Memory cause = ((o, source_and_one, Err fetch.Memory) ∷ [], cause, ((n, source_and_one) ∷ [], refl))
  no_old r cause = absurd cause

  module _ (old : List ℕ) (first : Answers a b o source_and_one (Ok old)) where
    pub bad_old : (r : Refusal) → IsSourceCause role.Old old r → Sees a b (λ seen. IsVersionsCause o n seen r)
    bad_old (refusal.Source which why) cause =
        let seen : List Answer = came o source_and_one old ∷ [] in
        (seen, first, subst (λ (named : Role). HasBadOfTwo o n named why seen) (sym cause.0) (old, refl, cause.1))
    bad_old refusal.Memory cause = (came o source_and_one old ∷ [], first, ((n, source_and_one) ∷ [], refl))
    bad_old r cause = absurd cause

    module _ (P : ProgramTree) (accepted : Accepted old P) (c : List Answer) where
      pub no_new : (r : Refusal) → IsFetchCause b c n source_and_one r → Sees a c (λ seen. IsVersionsCause o n seen r)
      no_new refusal.ReadFault cause =
          (came o source_and_one old ∷ missed n source_and_one ∷ [], then_seen a b c (came o source_and_one old ∷ []) (missed n source_and_one ∷ []) first cause, inr (old, refl, (P, accepted)))
      no_new refusal.Memory cause =
          let wanted : Answer = (n, source_and_one, Err fetch.Memory) in
          (came o source_and_one old ∷ wanted ∷ [], then_seen a b c (came o source_and_one old ∷ []) (wanted ∷ []) first cause, ([], refl))
      no_new r cause = absurd cause

      module _ (new : List ℕ) (second : Answers b c n source_and_one (Ok new)) where
        abbrev both : List Answer
        both = came o source_and_one old ∷ came n source_and_one new ∷ []

        pub both_seen : c ≡ a ++ both
        both_seen = then_seen a b c (came o source_and_one old ∷ []) (came n source_and_one new ∷ []) first second

        pub bad_new : (r : Refusal) → IsSourceCause role.New new r → Sees a c (λ seen. IsVersionsCause o n seen r)
        bad_new (refusal.Source which why) cause =
            (both, both_seen, subst (λ (named : Role). HasBadOfTwo o n named why both) (sym cause.0) (old, new, refl, (P, accepted), cause.1))
        bad_new refusal.Memory cause = (both, both_seen, ([], refl))
        bad_new r cause = absurd cause

-- both sources were read, and are accepted
pub are_read : (o n : List ℕ) (a b c : List Answer) (v : Versions) → Answers a b o source_and_one (Ok v.source.items) → Answers b c n source_and_one (Ok v.new_source.items)
    → AreSources v.source.items v.new_source.items (program_tree v.old) (program_tree v.new) → Sees a c (λ seen. AreRead o n seen v)
are_read o n a b c v first second sources = (
  came o source_and_one v.source.items ∷ came n source_and_one v.new_source.items ∷ [],
  then_seen a b c (came o source_and_one v.source.items ∷ []) (came n source_and_one v.new_source.items ∷ []) first second,
  record { fetched = refl; sources = sources },
)

-- ---- a source and a second file

module _ (which : Role) (s h : List ℕ) (most : ℕ) (a b : List Answer) where
  pub no_first : (r : Refusal) → IsFetchCause a b s source_and_one r → Sees a b (λ seen. IsOpenCause which s h most seen r)
  no_first refusal.ReadFault cause = (missed s source_and_one ∷ [], cause, inl refl)
  no_first refusal.Memory cause = ((s, source_and_one, Err fetch.Memory) ∷ [], cause, ((h, most) ∷ [], refl))
  no_first r cause = absurd cause

  module _ (source : List ℕ) (first : Answers a b s source_and_one (Ok source)) where
    pub bad_source : (r : Refusal) → IsSourceCause which source r → Sees a b (λ seen. IsOpenCause which s h most seen r)
    bad_source (refusal.Source named why) cause = (came s source_and_one source ∷ [], first, (cause.0, (source, refl, cause.1)))
    bad_source refusal.Memory cause = (came s source_and_one source ∷ [], first, ((h, most) ∷ [], refl))
    bad_source r cause = absurd cause

    pub no_second : (P : ProgramTree) → Accepted source P → (c : List Answer) (r : Refusal) → IsFetchCause b c h most r → Sees a c (λ seen. IsOpenCause which s h most seen r)
    no_second P accepted c refusal.ReadFault cause =
        (came s source_and_one source ∷ missed h most ∷ [], then_seen a b c (came s source_and_one source ∷ []) (missed h most ∷ []) first cause, inr (source, refl, (P, accepted)))
    no_second P accepted c refusal.Memory cause =
        let wanted : Answer = (h, most, Err fetch.Memory) in
        (came s source_and_one source ∷ wanted ∷ [], then_seen a b c (came s source_and_one source ∷ []) (wanted ∷ []) first cause, ([], refl))
    no_second P accepted c r cause = absurd cause

pub is_opened : (s h : List ℕ) (most : ℕ) (a b c : List Answer) (opened : OpenedSource) → Answers a b s source_and_one (Ok opened.source.items) → Answers b c h most (Ok opened.bytes.items)
    → Accepted opened.source.items (program_tree opened.program) → ((Q : ProgramTree) → Accepted opened.source.items Q → Q ≡ program_tree opened.program) → Sees a c (λ seen. IsOpened s h most seen opened)
is_opened s h most a b c opened first second accepted alone = (
  came s source_and_one opened.source.items ∷ came h most opened.bytes.items ∷ [],
  then_seen a b c (came s source_and_one opened.source.items ∷ []) (came h most opened.bytes.items ∷ []) first second,
  record { fetched = refl; accepted = accepted; alone = alone },
)

-- ---- and a third file

asks_more : (x y z : List ℕ × ℕ) (seen : List Answer) → Asks (x ∷ y ∷ []) seen → Asks (x ∷ y ∷ z ∷ []) seen
asks_more x y z seen (rest, is) =
    (rest ++ z ∷ [], ap (λ (l : List (List ℕ × ℕ)). l ++ z ∷ []) is ∙ append_assoc (map (λ (answer : Answer). (answer.0, answer.1)) seen) rest (z ∷ []))

module _ (o n h : List ℕ) (most : ℕ) (a b : List Answer) where
  pub no_versions : (r : Refusal) → Sees a b (λ seen. IsVersionsCause o n seen r) → Sees a b (λ seen. AreOpenCause o n h most seen r)
  no_versions (refusal.Source which why) sees = sees
  no_versions refusal.ReadFault (seen, is, cause) = (seen, is, inl cause)
  no_versions refusal.Memory (seen, is, cause) = (seen, is, asks_more (o, source_and_one) (n, source_and_one) (h, most) seen cause)
  no_versions r (seen, is, cause) = absurd cause

  module _ (v : Versions) (read : Sees a b (λ seen. AreRead o n seen v)) (c : List Answer) where
    abbrev two : List Answer
    two = came o source_and_one v.source.items ∷ came n source_and_one v.new_source.items ∷ []

    two_seen : b ≡ a ++ two
    two_seen = read.1 ∙ ap (λ (seen : List Answer). a ++ seen) read.2.fetched

    pub no_third : (r : Refusal) → IsFetchCause b c h most r → Sees a c (λ seen. AreOpenCause o n h most seen r)
    no_third refusal.ReadFault cause = (
      two ++ missed h most ∷ [],
      then_seen a b c two (missed h most ∷ []) two_seen cause,
      inr (v.source.items, v.new_source.items, refl, (program_tree v.old, read.2.sources.accepted), (program_tree v.new, read.2.sources.new_accepted)),
    )
    no_third refusal.Memory cause =
        let wanted : Answer = (h, most, Err fetch.Memory) in
        (two ++ wanted ∷ [], then_seen a b c two (wanted ∷ []) two_seen cause, ([], refl))
    no_third r cause = absurd cause

    pub are_opened : (bytes : Vec ℕ Global) → Answers b c h most (Ok bytes.items) → Sees a c (λ seen. AreOpened o n h most seen (record { versions = v; bytes = bytes }))
    are_opened bytes third = (
      two ++ came h most bytes.items ∷ [],
      then_seen a b c two (came h most bytes.items ∷ []) two_seen third,
      record { fetched = refl; sources = read.2.sources },
    )
