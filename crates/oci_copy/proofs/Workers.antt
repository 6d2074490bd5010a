-- What workers keep of a destination under a lock, how many keys they pushed, and why they fail.
use Rattle.std.proofs.Common.{◌≡◌, ◌+◌, ◌<◌, ◌≤◌, ◌⊎◌, inl, inr, ℕ, Bool, true, false, List, [], ◌∷◌, ◌++◌, length, Option, Some, None, Result, Ok, Err, refl, sym, ap, subst, ◌∙◌, arith, length-append}
use Rattle.std.specs.Prelude.{Contains, IfErr, IsSomeAnd, slice_get}
use Rattle.std.specs.List.{All, IsDistinct}
use Rattle.std.specs.Map.{keys_of}
use Rattle.std.specs.Result.{result_unwrap_or}
use Rattle.std.proofs.lemmas.Bool.{cases_lt, false≢true}
use Rattle.std.proofs.lemmas.List.Elements.{All-contains, Contains-push}
use Rattle.std.proofs.lemmas.Map.Made.{is_member-Decides, length-le_from_is_member}
use Rattle.oci_manifest.specs.Descriptor.{Descriptor, same_key}
use Rattle.oci_manifest.specs.Fault.{Fault}
use Rattle.oci_manifest.specs.declared.fault.ManifestFault.{ManifestFault}
use Rattle.oci_manifest.proofs.Keys.{Decides-same_key}
use Rattle.oci_store.specs.Keyed.{value_at, has_key, HasAll, HasDistinctKeys}
use Rattle.oci_store.specs.Content.{IsChecked, successors_in}
use Rattle.oci_store.specs.Graph.{Node}
use Rattle.oci_store.specs.Parts.{leaf_check}
use Rattle.oci_store.specs.State.{State}
use Rattle.oci_store.specs.Push.{IsRaised, Refusal, Refused, closed_check, held_check, missing_successor}
use Rattle.oci_store.specs.declared.fault.FetchFault.{FetchFault}
use Rattle.oci_store.specs.declared.fault.FetchFault.TheVariants as fetch
use Rattle.oci_store.specs.declared.fault.PushFault.{PushFault}
use Rattle.oci_store.specs.declared.fault.PushFault.TheVariants as push
use Rattle.oci_store.proofs.KeyOrder.{same_key_laws}
use Rattle.oci_store.proofs.Leaves.{leaf_check-fresh}
use Rattle.oci_store.proofs.Lookups.{found, has_key-from_value, All-value_at, value_at-append_cases, has_key-from_Contains, Contains-from_has_key, has_key-from_HasAll, first_missing-from_HasAll}
use Rattle.oci_plan.specs.Plan.{Planned}
use Rattle.oci_plan.specs.Refusal.{IsDeviceFault, IsUnread}
use Rattle.oci_copy.specs.declared.options.Options.{Options}
use Rattle.oci_copy.specs.declared.fault.CopyFault.{CopyFault}
use Rattle.oci_copy.specs.declared.fault.CopyFault.TheVariants as fault
use Rattle.oci_copy.specs.Cause.{CanFail, IsContentCause, IsStepCause, RefusedAt, IsRefusal, RefusedByWorkers, IsAnswerByWorkers}
use Rattle.oci_copy.specs.Fault.{IsEarly, of_push}
use Rattle.oci_copy.specs.Kept.{IsNoted, Keeps}
use Rattle.oci_copy.specs.Plain.{IsUnfailing, RefusedForPlan}
use Rattle.oci_copy.specs.Planned.{IsPlanOf}
use Rattle.oci_copy.proofs.Causes.{push_cause, refused_in_run, step_later}
use Rattle.oci_copy.proofs.Checks.{closed_check-read}
use Rattle.oci_copy.proofs.Places.{Contains-from_slice_get, length-keys_of}
use Rattle.oci_copy.proofs.Unfailing.{refused_for_plan, step_for_memory}

pub keys_of-append : {X : Type 0} (a b : List (Descriptor × X)) → keys_of (a ++ b) ≡ keys_of a ++ keys_of b
keys_of-append [] b = refl
keys_of-append (e ∷ a) b = ap (λ (ks : List Descriptor). e.0 ∷ ks) (keys_of-append a b)

-- what was pushed last is held
pub held_after : {X : Type 0} (old new : List (Descriptor × X)) (k : Descriptor) (x : X) → new ≡ old ++ (k, x) ∷ [] → has_key new k ≡ true
held_after {X} old new k x more =
    let there : Contains (keys_of (old ++ (k, x) ∷ [])) k = subst (λ (ks : List Descriptor). Contains ks k) (sym (keys_of-append old ((k, x) ∷ []))) (Contains-push (keys_of old) k) in
    has_key-from_Contains new k (subst (λ (l : List (Descriptor × X)). Contains (keys_of l) k) (sym more) there)

distinct_right : (a b : List Descriptor) → IsDistinct same_key (a ++ b) → IsDistinct same_key b
unfolding IsDistinct
distinct_right [] b d = d
distinct_right (x ∷ a) b d = distinct_right a b d.1

-- keys that are each there once are no more than those that have them all
few : (xs ys : List Descriptor) → IsDistinct same_key xs → ((k : Descriptor) → Contains xs k → Contains ys k) → length xs ≤ length ys
few xs ys distinct within =
    length-le_from_is_member same_key_laws xs ys distinct (λ k h. (is_member-Decides Decides-same_key ys k).1 (within k ((is_member-Decides Decides-same_key xs k).0 h)))

-- where all that is planned is held, as many nodes came as keys were planned
pub as_many_pushed : {shares : Type 0} {source : State} {planned : List Descriptor} {opening now : State} → Keeps shares source planned opening now
    → IsDistinct same_key planned → All (λ k. has_key opening.nodes k ≡ false) planned → HasDistinctKeys now.nodes → HasAll now.nodes planned
    → length now.nodes ≡ length opening.nodes + length planned
as_many_pushed {planned = planned} {opening = opening} {now = now} keeps distinct fresh each held =
    let split : keys_of now.nodes ≡ keys_of opening.nodes ++ keys_of keeps.added = ap keys_of keeps.is ∙ keys_of-append opening.nodes keeps.added in
    let once : IsDistinct same_key (keys_of keeps.added) = distinct_right (keys_of opening.nodes) (keys_of keeps.added) (subst (IsDistinct same_key) split each) in
    let at_most : length (keys_of keeps.added) ≤ length planned = few (keys_of keeps.added) planned once is_planned in
    let at_least : length planned ≤ length (keys_of keeps.added) = few planned (keys_of keeps.added) distinct was_added in
    let all : length now.nodes ≡ length (opening.nodes ++ keeps.added) = ap length keeps.is in
    omega (arith, at_most, at_least, all, length-append opening.nodes keeps.added, length-keys_of keeps.added)
  where
    is_planned : (k : Descriptor) → Contains (keys_of keeps.added) k → Contains planned k
    is_planned k there =
        let it = found keeps.added k (has_key-from_Contains keeps.added k there) in
        All-value_at (λ (n : Node). Contains planned n.0) keeps.added k it.0 keeps.planned_keys it.1

    was_added : (k : Descriptor) → Contains planned k → Contains (keys_of keeps.added) k
    was_added k there =
        let it = found now.nodes k (has_key-from_HasAll now.nodes planned k held there) in
        elim (value_at-append_cases opening.nodes keeps.added k it.0 (subst (λ (l : List Node). value_at l k ≡ Some it.0) keeps.is it.1)) [
          | inl old ↦ absurd (false≢true (sym (All-contains (λ d. has_key opening.nodes d ≡ false) planned k fresh there) ∙ has_key-from_value opening.nodes k it.0 old))
          | inr new ↦ Contains-from_has_key keeps.added k (has_key-from_value keeps.added k it.0 new)
        ]

-- why a push is refused that its check lets through
step_from_passed : (failed : Type 0) (source opening : State) (k : Descriptor) (check : Result (List Descriptor) Refusal) (listed : List Descriptor) → check ≡ Ok listed
    → (e : PushFault) → Refused e check → (e ≡ push.Device → failed) → (e ≡ push.Halted → opening.is_halted) → IsStepCause failed source opening k (of_push k e)
step_from_passed failed source opening k check listed passes e refused device halt =
    elim (push_cause failed source opening k check (λ r wrong. absurd (no_cause r wrong)) e refused device halt) [
      | inl step ↦ step
      | inr early ↦ absurd (no_cause (missing_successor early.0) early.2)
    ]
  where
    no_cause : (r : Refusal) → check ≡ Err r → ⊥
    no_cause r wrong = let both : Ok listed ≡ Err r = sym passes ∙ wrong in cc both

-- why a push under the lock is refused, once all that the content lists is held
pub step_from_push : (failed : Type 0) (source opening : State) (graph : List Node) (k : Descriptor) (bytes : List ℕ) (listed : List Descriptor)
    → has_key graph k ≡ false → IsChecked k bytes listed → HasAll graph (successors_in k bytes)
    → (e : PushFault) → Refused e (closed_check graph k bytes) → (e ≡ push.Device → failed) → (e ≡ push.Halted → opening.is_halted) → IsStepCause failed source opening k (of_push k e)
step_from_push failed source opening graph k bytes listed fresh checked held =
    let all : HasAll graph listed = subst (HasAll graph) (ap (λ (r : Result (List Descriptor) Fault). result_unwrap_or r []) checked.reads) held in
    step_from_passed failed source opening k (closed_check graph k bytes) listed
    (closed_check-read graph k bytes listed fresh checked ∙ ap (held_check listed) (first_missing-from_HasAll graph listed all))

-- and one of a lost draft
pub step_from_lost : (failed : Type 0) (source opening : State) (graph : List Node) (k : Descriptor) → has_key graph k ≡ false
    → (e : PushFault) → Refused e (leaf_check graph k) → (e ≡ push.Device → failed) → (e ≡ push.Halted → opening.is_halted) → IsStepCause failed source opening k (of_push k e)
step_from_lost failed source opening graph k fresh = step_from_passed failed source opening k (leaf_check graph k) [] (leaf_check-fresh graph k fresh)

-- a halt after a push was there at the opening, or a push ran out of memory
pub halted_after : {opening before after ran_out memory noted : Type 0} → (before → opening ⊎ ran_out) → (after → before ⊎ memory) → (ran_out → noted) → (memory → noted) → after → opening ⊎ noted
halted_after was running earlier now halted =
    elim (running halted) [
      | inl before ↦ elim (was before) [ inl opening ↦ inl opening | inr ran_out ↦ inr (earlier ran_out) ]
      | inr memory ↦ inr (now memory)
    ]

-- a put that failed since the opening failed before this push, or in it, and is noted
pub failed_after : (opening before after : ℕ) {was failed noted : Type 0} → (opening < before → was) → (before < after → failed) → (was → noted) → (failed → noted) → opening < after → noted
failed_after opening before after earlier did stays now lt =
    elim (cases_lt opening before) [
      | inl sooner ↦ stays (earlier sooner)
      | inr later ↦ now (did (omega (arith, lt, later)))
    ]

-- a put that failed now has failed since the opening
pub can_fail : {X : Type 0} (state : X → State) (opening before : State) (store : X) → opening.failures ≤ before.failures → IsRaised before.failures (state store).failures → CanFail state opening
can_fail state opening before store up raised = (store, elim raised [ inl more ↦ inl (omega arith) | inr most ↦ inr most.1 ])

-- a store that had halted before memory ran out was halted at the opening
pub halted_before : {was opening : Type 0} (ran_out now : Bool) → (was → opening ⊎ (ran_out ≡ true)) → (ran_out ≡ true → now ≡ true) → now ≡ false → was → opening
halted_before ran_out now since earlier not halted = elim (since halted) [ inl opening ↦ opening | inr out ↦ absurd (false≢true (sym not ∙ earlier out)) ]

-- the cause of a key whose content cannot be had is a worker's cause, for the source as it was
-- noted
pub step_from_content : (failed : Type 0) (noted now opening : State) (k : Descriptor) (reported : CopyFault) → IsNoted noted now → IsContentCause now k reported → IsStepCause failed noted opening k reported
step_from_content failed noted now opening k reported same cause = go reported cause
  where
    read : (e : ManifestFault) → IsUnread now.is_honest now.entries k e → IsUnread noted.is_honest noted.entries k e
    read e it = record {
      bytes = it.bytes;
      cause = it.cause;
      matching = it.matching;
      own = λ h. rw (← same.entries) (it.own (same.honest.1 h));
      breaks = it.breaks;
      tells = it.tells;
    }

    device : (e : FetchFault) → IsDeviceFault now e → IsDeviceFault noted e
    device fetch.Corrupt unsound = λ sound. unsound (same.sound.1 sound)
    device other it = it

    go : (t : CopyFault) → IsContentCause now k t → IsStepCause failed noted opening k t
    go (fault.Fetch named e) h = (h.0, ap (λ (f : Descriptor → Bool). f k) (sym same.fails_at) ∙ h.1, device e h.2)
    go (fault.Push named (push.BadManifest e)) h = (h.0, read e h.1, λ honest. h.2 (same.honest.1 honest))
    go fault.Memory h = tt
    go other h = absurd h

-- a job that fails is why the run stops
pub stop_from_job : (failed : Type 0) (source opening : State) (planned : List Descriptor) (n : ℕ) (reported : CopyFault)
    → IsSomeAnd (slice_get planned n) (λ k. IsStepCause failed source opening k reported) → RefusedAt (Contains planned) (IsStepCause failed source opening) reported
stop_from_job failed source opening planned n reported cause = at (slice_get planned n) refl cause
  where
    at : (o : Option Descriptor) → slice_get planned n ≡ o → IsSomeAnd o (λ k. IsStepCause failed source opening k reported) → RefusedAt (Contains planned) (IsStepCause failed source opening) reported
    at None is h = absurd h
    at (Some k) is h = inr (k, Contains-from_slice_get planned n k is, h)

-- what stops a run is no fault of a copy before its first push
pub stopped_later : (failed : Type 0) (source opening : State) (planned : List Descriptor) (reported : CopyFault) → RefusedAt (Contains planned) (IsStepCause failed source opening) reported
    → IsEarly reported → ⊥
stopped_later failed source opening planned reported (inl memory) early = subst IsEarly memory early
stopped_later failed source opening planned reported (inr it) early = step_later failed source opening it.0 reported it.2 early

pub stopped_other : (failed : Type 0) (source opening : State) (planned : List Descriptor) (reported : CopyFault) → RefusedAt (Contains planned) (IsStepCause failed source opening) reported
    → reported ≡ fault.BadWorkers → ⊥
stopped_other failed source opening planned reported cause same = stopped_later failed source opening planned reported cause (subst IsEarly (sym same) (tt))

-- the answer of a copy that more than 64 workers are asked for, or at most 64
pub answered_many : (X : Type 0) (workers : ℕ) (cause : CopyFault → Type 0) → 64 < workers → IsAnswerByWorkers {X = X} workers cause (Err fault.BadWorkers)
answered_many X workers cause many = ((λ same. many, λ over. refl), inl (refl, many))

pub answered_within : (X : Type 0) (workers : ℕ) (cause : CopyFault → Type 0) (e : CopyFault) → workers ≤ 64 → (e ≡ fault.BadWorkers → ⊥) → cause e → IsAnswerByWorkers {X = X} workers cause (Err e)
answered_within X workers cause e within other is = ((λ same. absurd (other same), λ over. absurd (omega (arith, over, within))), inr (within, is))

-- a weaker cause, also where it is so only if neither store fails
pub answered_weaker : {X : Type 0} (workers : ℕ) (cause weaker : CopyFault → Type 0) → ((e : CopyFault) → cause e → weaker e) → (answer : Result X CopyFault)
    → IsAnswerByWorkers workers cause answer → IsAnswerByWorkers workers weaker answer
answered_weaker workers cause weaker from (Ok x) within = within
answered_weaker workers cause weaker from (Err e) it = (it.0, elim it.1 [ inl many ↦ inl many | inr is ↦ inr (is.0, from e is.1) ])

pub answered_plainly : {X : Type 0} (workers : ℕ) (cause plain : CopyFault → Type 0) (neither : Type 0) → neither → (answer : Result X CopyFault) → IsAnswerByWorkers workers cause answer
    → IfErr answer (λ e. neither → RefusedByWorkers workers plain e) → IsAnswerByWorkers workers plain answer
answered_plainly workers cause plain neither unfailing (Ok x) within refused = within
answered_plainly workers cause plain neither unfailing (Err e) it refused = (it.0, refused unfailing)

-- why a copy by workers is refused whose plan was run: for the number of workers, or for what
-- stopped the run
module _ {source : State} {options : Options} {opening : State} {roots : List Descriptor} {p : Planned} (failed : Type 0) (workers : ℕ)
    (plan : IsPlanOf source options opening roots p) where
  refused_in_work : (reported : CopyFault) → RefusedAt (Contains p.keys) (IsStepCause failed source opening) reported → IsRefusal (IsStepCause failed) options source opening roots reported
  refused_in_work reported (inl memory) = rw memory tt
  refused_in_work reported (inr it) =
      refused_in_run (IsStepCause failed) (λ k holder missing never. never) (λ k e never. never) reported plan it.0 it.1 it.2

  pub refused_once_planned : {X : Type 0} (answer : Result X CopyFault) → IsAnswerByWorkers workers (RefusedAt (Contains p.keys) (IsStepCause failed source opening)) answer
      → IsAnswerByWorkers workers (IsRefusal (IsStepCause failed) options source opening roots) answer
  refused_once_planned =
      answered_weaker workers (RefusedAt (Contains p.keys) (IsStepCause failed source opening)) (IsRefusal (IsStepCause failed) options source opening roots) refused_in_work

-- why a copy by workers is refused where neither store fails
module _ (failed : Type 0) (source opening : State) (not_failed : failed → ⊥) (options : Options) (unfailing : IsUnfailing options.existing source opening opening) where
  -- a run that has its plan stops for a memory error
  pub stopped_for_memory : (planned : List Descriptor) (reported : CopyFault) → RefusedAt (Contains planned) (IsStepCause failed source opening) reported → reported ≡ fault.Memory
  stopped_for_memory planned reported (inl memory) = memory
  stopped_for_memory planned reported (inr it) = step_for_memory options unfailing failed not_failed it.0 reported it.2

  pub refused_by_workers : (roots : List Descriptor) (workers : ℕ) (reported : CopyFault) → RefusedByWorkers workers (IsRefusal (IsStepCause failed) options source opening roots) reported
      → RefusedByWorkers workers (RefusedForPlan source.entries options opening.nodes roots) reported
  refused_by_workers roots workers reported (inl many) = inl many
  refused_by_workers roots workers reported (inr it) =
      inr (it.0, refused_for_plan options unfailing (IsStepCause failed) (step_for_memory options unfailing failed not_failed) roots reported it.1)

-- where no put of a store of this kind is counted as failed, none can fail
pub never_fails : {X : Type 0} (state : X → State) (opening : State) → opening.failures ≡ 0 → ((store : X) → (state store).failures ≡ 0) → CanFail state opening → ⊥
never_fails state opening none never may = elim may.1 [ inl rose ↦ (let n = never may.0 in omega arith) | inr most ↦ (let n = never may.0 in omega arith) ]
