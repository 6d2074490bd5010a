-- How far a walk along what keys list is.
use Rattle.std.proofs.Common.{◌≡◌, ℕ, zero, suc, ◌+◌, ◌<◌, ◌≤◌, List, [], ◌∷◌, ◌++◌, length, take, get_or, Option, Some, None, refl, sym, ap, subst, ◌∙◌, append-nil, arith}
use Rattle.std.specs.List.{slice_get}
use Rattle.std.proofs.lemmas.List.{take_more, take-append-le}
use Rattle.std.proofs.lemmas.Option.{get_or_from_slice_get, slice_get_within}
use Rattle.oci_layout_store.specs.Opened.{any}
use Rattle.oci_layout_store.proofs.Walk.{take_next}
use Rattle.oci_manifest.specs.Descriptor.{Descriptor}
use Rattle.oci_manifest.specs.Manifest.{first_places}
use Rattle.oci_store.specs.Visiting.{candidates, next_visit, with_keys, IsVisiting, start, next}
use Rattle.oci_store.proofs.Membership.{Keys, first_places-append, with_keys-grows, slice_get-append_left}
use Rattle.oci_store.proofs.Visits.{next_visit-at, candidates-push, first_places-all}

-- the first i of the keys were visited, and the keys are the candidates so far
pub record IsWalking (lists : Descriptor → Keys) (starts keys : Keys) (i : ℕ) : Type 0 where
  pub visiting : IsVisiting lists any starts (take i keys)
  pub found : keys ≡ first_places (candidates lists starts (take i keys))
  pub inside : i ≤ length keys

next_is : (lists : Descriptor → Keys) (starts keys : Keys) (i : ℕ) → IsWalking lists starts keys i → next_visit lists any starts (take i keys) ≡ slice_get keys i
next_is lists starts keys i h =
    next_visit-at lists any starts keys i (h.found ∙ ap first_places (sym (first_places-all (candidates lists starts (take i keys)))))

pub IsWalking-start : (lists : Descriptor → Keys) (starts keys : Keys) → keys ≡ with_keys [] starts → IsWalking lists starts keys 0
IsWalking-start lists starts keys h = record {
  visiting = start;
  found = h ∙ sym (first_places-append [] starts) ∙ ap first_places (sym (append-nil starts));
  inside = omega arith;
}

pub IsWalking-step : (lists : Descriptor → Keys) (starts keys after : Keys) (i : ℕ) (k : Descriptor) → IsWalking lists starts keys i → slice_get keys i ≡ Some k → after ≡ with_keys keys (lists k) → IsWalking lists starts after (i + 1)
IsWalking-step lists starts keys after i k h at e =
    let taken = take_next keys after (lists k) i k e at in
    let lt : i + 1 ≤ length after = within after i k (after_at at) in
    record {
      visiting = rw taken (next h.visiting (next_is lists starts keys i h ∙ at));
      found = e ∙ ap (λ (t : Keys). with_keys t (lists k)) h.found ∙ sym (first_places-append (candidates lists starts (take i keys)) (lists k))
          ∙ ap first_places (sym (candidates-push lists starts (take i keys) k)) ∙ ap (λ (t : Keys). first_places (candidates lists starts t)) (sym taken);
      inside = lt;
    }
  where
    after_at : slice_get keys i ≡ Some k → slice_get after i ≡ Some k
    after_at there = let r = with_keys-grows keys (lists k) in subst (λ (t : Keys). slice_get t i ≡ Some k) (sym (e ∙ r.1)) (slice_get-append_left keys r.0 i k there)

    within : (ks : Keys) (j : ℕ) (x : Descriptor) → slice_get ks j ≡ Some x → j + 1 ≤ length ks
    within ks j x there = let lt = slice_get_within ks j x there in omega (arith, lt)

take_whole : (keys : Keys) (i : ℕ) → i ≤ length keys → slice_get keys i ≡ None → take i keys ≡ keys
take_whole [] zero le none = refl
take_whole [] (suc i) le none = absurd (omega (arith, le))
take_whole (k ∷ keys) zero le none = cc none
take_whole (k ∷ keys) (suc i) le none = ap (λ (t : Keys). k ∷ t) (take_whole keys i (omega (arith, le)) none)

pub past : (keys : Keys) (i : ℕ) → length keys ≤ i → slice_get keys i ≡ None
past [] i h = refl
past (k ∷ keys) zero h = absurd (omega (arith, h))
past (k ∷ keys) (suc i) h = past keys i (omega (arith, h))

-- all keys were visited
pub walked : (lists : Descriptor → Keys) (starts keys : Keys) (i : ℕ) → IsWalking lists starts keys i → length keys ≤ i
    → IsVisiting lists any starts keys × (next_visit lists any starts keys ≡ None) × (take i keys ≡ keys) × (i ≡ length keys)
walked lists starts keys i h end =
    let none = past keys i end in
    let whole = take_whole keys i h.inside none in
    let inside = h.inside in (
      subst (IsVisiting lists any starts) whole h.visiting,
      subst (λ (t : Keys). next_visit lists any starts t ≡ None) whole (next_is lists starts keys i h ∙ none),
      whole,
      omega (arith, inside, end),
    )
