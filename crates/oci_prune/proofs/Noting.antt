-- The first fault of several removals.
use Rattle.std.proofs.Common.{◌≡◌, ℕ, Bool, true, false, ◌+◌, ◌<◌, ◌⊎◌, inl, inr, List, [], ◌∷◌, ◌++◌, length, take, get_or, Option, Some, None, String, Global, string_bytes, refl, sym, subst, ◌∙◌}
use Rattle.std.specs.Prelude.{IfSome}
use Rattle.std.proofs.lemmas.Option.{IfSome_then}
use Rattle.oci_dir.specs.Device.{Device}
use Rattle.oci_dir.specs.Prunable.{by_name}
use Rattle.oci_prune.specs.Pruned.{IsDraftIn, IsPathAmong, IsPlanned, IsPlannedUnheld}
use Rattle.oci_prune.specs.Refusal.{IsRemovalFault, Notes}
use Rattle.oci_prune_fault.specs.declared.fault.PruneFault.{PruneFault}
use Rattle.oci_prune_fault.specs.declared.fault.PruneFault.TheVariants as fault
use Rattle.oci_prune.specs.declared.plan.PrunedFile.{PrunedFile}
use Rattle.oci_prune.specs.declared.plan.PrunePlan.{PrunePlan}
use Rattle.oci_prune.proofs.Elements.{next_element}
use Rattle.oci_prune.proofs.Sparing.{Paths, Drafts, IsPathIf, by_name-next, among_here, among_later, draft_here, draft_later, path_among}

-- the fault of a removal at one of some paths, in a directory that fails as another
pub removal_weaker : (a b : Device) (P Q : Paths) (e : PruneFault) → b.fails_reads ≡ a.fails_reads → ((path : List ℕ) → P path → Q path) → IsRemovalFault b P e → IsRemovalFault a Q e
removal_weaker a b P Q (fault.NotRemoved path) reads p h = (sym reads ∙ h.0, p (string_bytes path) h.1)
removal_weaker a b P Q (fault.Fetch k e) reads p h = absurd h
removal_weaker a b P Q (fault.Layout e) reads p h = absurd h
removal_weaker a b P Q fault.Memory reads p h = tt
removal_weaker a b P Q (fault.Unknown k) reads p h = absurd h
removal_weaker a b P Q fault.NoTags reads p h = absurd h
removal_weaker a b P Q (fault.LinkedBlobs path) reads p h = absurd h

-- the fault that was noted first stays through two removals
stays_both : (old mid new : Option PruneFault) → IfSome old (λ (e : PruneFault). mid ≡ Some e) → IfSome mid (λ (e : PruneFault). new ≡ Some e) → IfSome old (λ (e : PruneFault). new ≡ Some e)
stays_both None mid new first second = tt
stays_both (Some e) mid new first second = subst (λ (o : Option PruneFault). IfSome o (λ (x : PruneFault). new ≡ Some x)) first second

-- where nothing is removed
pub notes_same : (dir : Device) (P : Paths) (noted : Option PruneFault) → Notes dir P noted noted
notes_same dir P None = record { first = tt; cause = tt }
notes_same dir P (Some e) = record { first = refl; cause = inl refl }

-- of two removals one after the other
pub notes_both : (a b : Device) (P Q T : Paths) (old mid new : Option PruneFault) → b.fails_reads ≡ a.fails_reads → Notes a P old mid → Notes b Q mid new → ((path : List ℕ) → P path → T path) → ((path : List ℕ) → Q path → T path) → Notes a T old new
notes_both a b P Q T old mid new reads first second p q = record { first = stays_both old mid new first.first second.first; cause = from new second.cause }
  where
    before : (e : PruneFault) → mid ≡ Some e → (old ≡ Some e) ⊎ IsRemovalFault a T e
    before e is =
        elim (subst (λ (o : Option PruneFault). IfSome o (λ (x : PruneFault). (old ≡ Some x) ⊎ IsRemovalFault a P x)) is first.cause) [
          | inl was ↦ inl was
          | inr refused ↦ inr (removal_weaker a a P T e refl p refused)
        ]

    from : (last : Option PruneFault) → IfSome last (λ (e : PruneFault). (mid ≡ Some e) ⊎ IsRemovalFault b Q e) → IfSome last (λ (e : PruneFault). (old ≡ Some e) ⊎ IsRemovalFault a T e)
    from None h = tt
    from (Some e) h = elim h [ inl was ↦ before e was | inr refused ↦ inr (removal_weaker a b Q T e reads q refused) ]

-- a fault where none was before is that of a removal
pub only_new : (dir : Device) (P : Paths) (new : Option PruneFault) → Notes dir P None new → IfSome new (IsRemovalFault dir P)
only_new dir P None notes = tt
only_new dir P (Some e) notes = elim notes.cause [ inl never ↦ cc never | inr refused ↦ refused ]

unheld_planned : (plan : PrunePlan) (path : List ℕ) → IsPlannedUnheld plan path → IsPlanned plan path
unheld_planned plan path (inl h) = inl (path_among false plan.files.items path h)
unheld_planned plan path (inr h) = inr h

-- the first fault of a prune whose index is not saved is that of a planned path
pub unheld_fault : (dir : Device) (plan : PrunePlan) (noted : Option PruneFault) → Notes dir (IsPlannedUnheld plan) None noted → IfSome noted (IsRemovalFault dir (IsPlanned plan))
unheld_fault dir plan noted notes =
    IfSome_then noted (only_new dir (IsPlannedUnheld plan) noted notes) (λ e h. removal_weaker dir dir (IsPlannedUnheld plan) (IsPlanned plan) e refl (unheld_planned plan) h)

-- the first fault of a prune is that of a planned path
pub planned_fault : (old mid : Device) (plan : PrunePlan) (noted new : Option PruneFault) → mid.fails_reads ≡ old.fails_reads → Notes old (IsPlannedUnheld plan) None noted → Notes mid (IsPathAmong true plan.files.items) noted new → IfSome new (IsRemovalFault old (IsPlanned plan))
planned_fault old mid plan noted new reads first second =
    only_new old (IsPlanned plan) new (notes_both old mid (IsPlannedUnheld plan) (IsPathAmong true plan.files.items) (IsPlanned plan) None noted new reads first second (unheld_planned plan) (λ path h. inl (path_among true plan.files.items path h)))

-- ---- the loops

pub notes_file : (a b : Device) (is_held : Bool) (files : List PrunedFile) (i : ℕ) (f : PrunedFile) (old mid new : Option PruneFault) → i < length files → f ≡ get_or files i f → b.fails_reads ≡ a.fails_reads → Notes a (IsPathAmong is_held (take i files)) old mid
    → Notes b (IsPathIf is_held f) mid new → Notes a (IsPathAmong is_held (take (i + 1) files)) old new
notes_file a b is_held files i f old mid new lt is reads first second =
    subst (λ (fs : List PrunedFile). Notes a (IsPathAmong is_held fs) old new) (sym (next_element files i f lt is))
    (notes_both a b (IsPathAmong is_held (take i files)) (IsPathIf is_held f) (IsPathAmong is_held (take i files ++ f ∷ [])) old mid new reads first second (among_later is_held (take i files) f) (among_here is_held (take i files) f))

pub notes_draft : (a b : Device) (drafts : Drafts) (i : ℕ) (d : String Global × ℕ) (old mid new : Option PruneFault) → i < length drafts → d ≡ get_or drafts i d → b.fails_reads ≡ a.fails_reads → Notes a (IsDraftIn (by_name (take i drafts))) old mid
    → Notes b (λ (path : List ℕ). string_bytes d.0 ≡ path) mid new → Notes a (IsDraftIn (by_name (take (i + 1) drafts))) old new
notes_draft a b drafts i d old mid new lt is reads first second =
    let draft : List ℕ × ℕ = (string_bytes d.0, d.1) in
    subst (λ (ds : List (List ℕ × ℕ)). Notes a (IsDraftIn ds) old new) (sym (by_name-next drafts i d lt is))
    (notes_both a b (IsDraftIn (by_name (take i drafts))) (λ (path : List ℕ). string_bytes d.0 ≡ path) (IsDraftIn (by_name (take i drafts) ++ draft ∷ [])) old mid new reads first second (draft_later (by_name (take i drafts)) draft)
    (draft_here (by_name (take i drafts)) draft))
