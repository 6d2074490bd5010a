-- What a walk meets, whatever bytes the source's device has now.
use Rattle.std.proofs.Common.{◌≡◌, ◌<◌, ℕ, Bool, true, false, inl, inr, ◌++◌, List, [], length, refl, sym, ap, subst, ◌∙◌}
use Rattle.std.specs.List.{filter, All, IsDistinct}
use Rattle.std.proofs.lemmas.Bool.{not-true}
use Rattle.std.proofs.lemmas.List.Elements.{All-nil}
use Rattle.oci_manifest.specs.Descriptor.{Descriptor, same_key}
use Rattle.oci_manifest.specs.Manifest.{first_places}
use Rattle.oci_manifest.proofs.Keys.{IsDistinct-first_places}
use Rattle.oci_store.specs.Keyed.{has_key}
use Rattle.oci_store.specs.Content.{Entry}
use Rattle.oci_store.specs.Graph.{Node}
use Rattle.oci_store.specs.State.{State}
use Rattle.oci_store.specs.Visiting.{with_keys}
use Rattle.oci_store.proofs.Membership.{Keys, Contains-from_among, among-filter, among-with_keys, All-from_among, All-among, first_places-append}
use Rattle.oci_plan.specs.Fault.{Names}
use Rattle.oci_plan.specs.Met.{IsListedUnder, IsMet, AreTooMany, NamesMet}
use Rattle.oci_plan.specs.Met as path
use Rattle.oci_plan.specs.Refusal.{IsOfKey, IsFirstFault, IsTrueOfWalk}
use Rattle.oci_plan.specs.Visiting.{is_fresh, passes}
use Rattle.oci_plan.specs.declared.gathering.Existing.{Existing}
use Rattle.oci_plan.specs.declared.fault.PlanFault.{PlanFault}
use Rattle.oci_plan.specs.declared.fault.PlanFault.TheVariants as fault
use Rattle.oci_plan.proofs.Visits.{fresh_passes}

-- what holds of a key holds of what a fault of it names
pub names_key : (key : Descriptor → Type 0) (cycle : Keys → Type 0) (many : Type 0) (k : Descriptor) (e : PlanFault) → key k → IsOfKey k e → Names key cycle many e
names_key key cycle many k (fault.NotFound named) h same = subst key (sym same) h
names_key key cycle many k (fault.TooLarge named l) h same = subst key (sym same) h
names_key key cycle many k (fault.Cycle ks) h same = absurd same
names_key key cycle many k (fault.Manifest named f) h same = subst key (sym same) h
names_key key cycle many k (fault.Fetch named f) h same = subst key (sym same) h
names_key key cycle many k fault.Memory h same = tt
names_key key cycle many k fault.TooMany h same = absurd same

-- where numbers are refused there are too many keys, or a memory error
pub names_many : (key : Descriptor → Type 0) (cycle : Keys → Type 0) (many : Type 0) (keys : Keys) (e : PlanFault) → (4294967295 < length keys → many) → Names (λ _. ⊥) (λ _. ⊥) (4294967295 < length keys) e → Names key cycle many e
names_many key cycle many keys (fault.NotFound named) h refused = absurd refused
names_many key cycle many keys (fault.TooLarge named l) h refused = absurd refused
names_many key cycle many keys (fault.Cycle ks) h refused = absurd refused
names_many key cycle many keys (fault.Manifest named f) h refused = absurd refused
names_many key cycle many keys (fault.Fetch named f) h refused = absurd refused
names_many key cycle many keys fault.Memory h refused = tt
names_many key cycle many keys fault.TooMany h refused = h refused

-- a fault that names no key is true where it is met and first
pub unnamed_true : (existing : Existing) (source destination : State) (roots : Keys) (limit : ℕ) (many : Type 0) (e : PlanFault) → Names (λ _. ⊥) (λ _. ⊥) many e
    → NamesMet existing source.entries destination.nodes roots e → (source.is_honest → IsFirstFault existing source.entries destination.nodes roots limit e) → IsTrueOfWalk existing source destination roots limit e
unnamed_true existing source destination roots limit many (fault.NotFound k) none met first = absurd none
unnamed_true existing source destination roots limit many (fault.TooLarge k l) none met first = absurd none
unnamed_true existing source destination roots limit many (fault.Cycle ks) none met first = absurd none
unnamed_true existing source destination roots limit many (fault.Manifest k f) none met first = absurd none
unnamed_true existing source destination roots limit many (fault.Fetch k f) none met first = absurd none
unnamed_true existing source destination roots limit many fault.Memory none met first = record { cause = tt; spared = tt; named = tt; met = met; first = first }
unnamed_true existing source destination roots limit many fault.TooMany none met first = record { cause = tt; spared = tt; named = tt; met = met; first = first }

-- keys that stand in a list once each: the first places of some list
pub once_more : (keys offered more grown : Keys) → keys ≡ first_places offered → grown ≡ with_keys keys more → grown ≡ first_places (offered ++ more)
once_more keys offered more grown once is_grown = is_grown ∙ ap (λ (t : Keys). with_keys t more) once ∙ sym (first_places-append offered more)

-- what holds of keys, and of more keys, holds of them all
pub all_more : (P : Descriptor → Type 0) (keys more : Keys) → All P keys → All P more → All P (with_keys keys more)
all_more P keys more old new = All-from_among P (with_keys keys more) (λ k there.
    elim (among-with_keys keys more k there) [
      | inl before ↦ All-among P keys k old before
      | inr added ↦ All-among P more k new added
    ])

module _ (existing : Existing) (entries : List Entry) (held : List Node) (roots : Keys) where
  abbrev Met : Descriptor → Type 0
  Met = IsMet existing entries held roots

  abbrev NotHeld : Descriptor → Type 0
  NotHeld k = has_key held k ≡ false

  -- those of the roots that a filter keeps were met, if what it keeps is visited
  pub met_roots : (p : Descriptor → Bool) → ((k : Descriptor) → p k ≡ true → passes existing held k ≡ true) → All Met (filter p roots)
  met_roots p passing = All-from_among Met (filter p roots) (λ k there.
      let kept = among-filter p roots k there in
      path.root (Contains-from_among roots k kept.1) (passing k kept.0))

  -- so were those of the keys that are listed under one that was met
  pub met_listed : (p : Descriptor → Bool) → ((k : Descriptor) → p k ≡ true → passes existing held k ≡ true) → (from : Descriptor) (listed : Keys) → Met from → All (IsListedUnder entries from) listed → All Met (filter p listed)
  met_listed p passing from listed before under = All-from_among Met (filter p listed) (λ k there.
      let kept = among-filter p listed k there in
      path.along before (All-among (IsListedUnder entries from) listed k under kept.1) (passing k kept.0))

  -- what is not held is visited
  pub fresh_visited : (k : Descriptor) → is_fresh held k ≡ true → passes existing held k ≡ true
  fresh_visited k new = fresh_passes existing held k new

  -- what a filter keeps that passes what is not held is not held
  pub fresh_kept : (ks : Keys) → All NotHeld (filter (is_fresh held) ks)
  fresh_kept ks = All-from_among NotHeld (filter (is_fresh held) ks) (λ k there. not-true (has_key held k) (among-filter (is_fresh held) ks k there).0)

  -- where numbers are refused there are too many keys
  pub numbers_met : (keys offered more : Keys) (e : PlanFault) → keys ≡ first_places offered → All NotHeld keys → All Met keys → All NotHeld more → All Met more → Names (λ _. ⊥) (λ _. ⊥) (4294967295 < length (with_keys keys more)) e
      → NamesMet existing entries held roots e
  numbers_met keys offered more e once old_fresh old_met new_fresh new_met refused = names_many _ _ _ (with_keys keys more) e many refused
    where
      many : 4294967295 < length (with_keys keys more) → (all : List Descriptor) × AreTooMany existing entries held roots all
      many h = (
        with_keys keys more,
        record {
          many = h;
          distinct = subst (λ (t : Keys). IsDistinct same_key t) (sym (once_more keys offered more (with_keys keys more) once refl)) (IsDistinct-first_places (offered ++ more));
          fresh = all_more NotHeld keys more old_fresh new_fresh;
          met = all_more Met keys more old_met new_met;
        },
      )

  -- the same for the roots
  pub roots_met : (e : PlanFault) → Names (λ _. ⊥) (λ _. ⊥) (4294967295 < length (with_keys [] (filter (is_fresh held) roots))) e → NamesMet existing entries held roots e
  roots_met e refused = numbers_met [] [] (filter (is_fresh held) roots) e refl (All-nil NotHeld) (All-nil Met) (fresh_kept roots) (met_roots (is_fresh held) fresh_visited) refused
