-- How a climb goes on, and what it has found at its end.
use Rattle.std.proofs.Common.{◌≡◌, ◌≢◌, ℕ, zero, suc, ◌+◌, ◌<◌, ◌≤◌, true, ◌⊎◌, inl, inr, List, [], ◌∷◌, length, get_or, Some, refl, sym, subst, ◌∙◌, arith}
use Rattle.std.specs.Prelude.{Contains, ◌↔◌}
use Rattle.std.specs.List.{slice_get}
use Rattle.std.specs.List.Sorted.{IsStrictlySortedBy}
use Rattle.std.proofs.lemmas.Bool.{or_cases, or_left, cases_lt, cases_order}
use Rattle.std.proofs.lemmas.Option.{slice_get_within, slice_get-get_or}
use Rattle.oci_manifest.specs.Descriptor.{Descriptor, same_key, key_cmp, is_among}
use Rattle.oci_manifest.proofs.Keys.{Decides-same_key}
use Rattle.oci_store.specs.Graph.{Node, IsEdge}
use Rattle.oci_plan.specs.Climb.{IsFoundWithin, IsClimbed, IsRaised, IsStep}
use Rattle.oci_plan.specs.Up.{HasPath, IsWithinDepth, IsUp}
use Rattle.oci_store.specs.Visiting.{with_keys}
use Rattle.oci_store.proofs.Membership.{Keys, Contains-from_among, among_from_Contains, among-with_keys, among_from_place, place_from_among, slice_get-with_keys, stays-with_keys, there-with_keys}

-- ---- a step

-- what was found stays
raised_there : (graph : List Node) (old new : Keys) (k : Descriptor) → IsRaised graph old new → Contains old k → Contains new k
raised_there graph old new k raised h =
    let at = place_from_among old k (among_from_Contains old k h) in
    Contains-from_among new k (among_from_place new at.0 k (raised.kept at.0 k at.1))

-- a place stays a place
pub raised_place : (graph : List Node) (old new : Keys) (place : ℕ) → IsRaised graph old new → place < length old → place < length new
raised_place graph old new place raised lt =
    let any : Descriptor = record { media_type = []; digest = []; size = 0 } in
    slice_get_within new place (get_or old place any) (raised.kept place (get_or old place any) (slice_get-get_or old place any lt))

pub raised_longer : (graph : List Node) (old new : Keys) → IsRaised graph old new → length old ≤ length new
raised_longer graph old new raised =
    elim (cases_lt (length new) (length old)) [ inl lt ↦ absurd (omega (arith, raised_place graph old new (length new) raised lt)) | inr le ↦ le ]

pub raised_start : (graph : List Node) (ks : Keys) → IsRaised graph ks ks
raised_start graph ks = record { kept = λ i k h. h; came = λ upper h. inl h }

pub raised_more : (graph : List Node) (old found new : Keys) (place : ℕ) → place < length old → IsRaised graph old found → IsStep graph place found new → IsRaised graph old new
raised_more graph old found new place lt raised step = record { kept = kept; came = came }
  where
    kept : (i : ℕ) (k : Descriptor) → slice_get old i ≡ Some k → slice_get new i ≡ Some k
    kept i k h = subst (λ (t : Keys). slice_get t i ≡ Some k) (sym step.grown) (slice_get-with_keys found step.predecessors i k (raised.kept i k h))

    there : Contains old step.lower
    there =
        let old_at = raised.kept place (get_or old place step.lower) (slice_get-get_or old place step.lower lt) in
        (place, lt, cc (sym old_at ∙ step.there))

    came : (upper : Descriptor) → Contains new upper → Contains old upper ⊎ ((lower : Descriptor) × Contains old lower × IsEdge graph upper lower)
    came upper h =
        elim (among-with_keys found step.predecessors upper (subst (λ (t : Keys). is_among t upper ≡ true) step.grown (among_from_Contains new upper h))) [
          | inl before ↦ raised.came upper (Contains-from_among found upper before)
          | inr listed ↦ inr (step.lower, there, (step.before.each upper).0 (Contains-from_among step.predecessors upper listed))
        ]

pub climbed_more : (graph : List Node) (found new : Keys) (place : ℕ) → IsClimbed graph place found → IsStep graph place found new → IsClimbed graph (place + 1) new
climbed_more graph found new place climbed step i lower upper lt at edge =
    elim (cases_order i place) [
      | inl here ↦
          let is_lower : step.lower ≡ lower = same place step.lower step.there (subst (λ (n : ℕ). slice_get new n ≡ Some lower) here at) in
          let listed = (step.before.each upper).1 (subst (λ (x : Descriptor). IsEdge graph upper x) (sym is_lower) edge) in
          grown upper (there-with_keys found step.predecessors upper (among_from_Contains step.predecessors upper listed))
      | inr apart ↦
          elim apart [
            | inr after ↦ absurd (omega (arith, lt, after))
            | inl before ↦
                let within = slice_get_within found place step.lower step.there in
                let old_at = slice_get-get_or found i lower (omega (arith, before, within)) in
                let is_lower : get_or found i lower ≡ lower = same i (get_or found i lower) old_at at in
                let old = climbed i lower upper before (subst (λ (x : Descriptor). slice_get found i ≡ Some x) is_lower old_at) edge in
                grown upper (stays-with_keys found step.predecessors upper (among_from_Contains found upper old))
          ]
    ]
  where
    grown : (k : Descriptor) → is_among (with_keys found step.predecessors) k ≡ true → Contains new k
    grown k h = Contains-from_among new k (subst (λ (t : Keys). is_among t k ≡ true) (sym step.grown) h)

    same : (n : ℕ) (k : Descriptor) → slice_get found n ≡ Some k → slice_get new n ≡ Some lower → k ≡ lower
    same n k was is =
        let kept = subst (λ (t : Keys). slice_get t n ≡ Some k) (sym step.grown) (slice_get-with_keys found step.predecessors n k was) in
        cc (sym kept ∙ is)

-- ---- a level

pub within_start : (graph : List Node) (k : Descriptor) → IsFoundWithin graph k 0 (k ∷ [])
within_start graph k from = (to, λ p. back p.0 p.1 p.2)
  where
    to : Contains (k ∷ []) from → (edges : ℕ) × (edges ≤ 0) × HasPath graph edges from k
    to h =
        elim (or_cases (same_key k from) (is_among [] from) (among_from_Contains (k ∷ []) from h)) [
          | inl same ↦ (zero, omega arith, sym ((Decides-same_key k from).0 same))
          | inr never ↦ cc never
        ]

    back : (edges : ℕ) → edges ≤ 0 → HasPath graph edges from k → Contains (k ∷ []) from
    back zero le path = Contains-from_among (k ∷ []) from (or_left (same_key k from) (is_among [] from) ((Decides-same_key k from).1 (sym path)))
    back (suc edges) le path = absurd (omega (arith, le))

pub within_more : (graph : List Node) (k : Descriptor) (most : ℕ) (old new : Keys) → IsFoundWithin graph k most old → IsRaised graph old new → IsClimbed graph (length old) new → IsFoundWithin graph k (most + 1) new
within_more graph k most old new within raised climbed from = (to, λ p. back p.0 p.1 p.2)
  where
    to : Contains new from → (edges : ℕ) × (edges ≤ most + 1) × HasPath graph edges from k
    to h =
        elim (raised.came from h) [
          | inl before ↦
              let p = (within from).0 before in
              (p.0, omega (arith, p.1), p.2)
          | inr above ↦
              let p = (within above.0).0 above.1 in
              (suc p.0, omega (arith, p.1), (above.0, above.2, p.2))
        ]

    back : (edges : ℕ) → edges ≤ most + 1 → HasPath graph edges from k → Contains new from
    back zero le path = raised_there graph old new from raised ((within from).1 (zero, omega arith, path))
    back (suc edges) le path =
        let lower = (within path.0).1 (edges, omega (arith, le), path.2) in
        let at = place_from_among old path.0 (among_from_Contains old path.0 lower) in
        climbed at.0 path.0 from (slice_get_within old at.0 path.0 at.1) (raised.kept at.0 path.0 at.1) path.1

-- ---- the end

-- what was climbed from at every place is all that a path leads from
all_found : (graph : List Node) (k : Descriptor) (found : Keys) → IsClimbed graph (length found) found → Contains found k → (edges : ℕ) (from : Descriptor) → HasPath graph edges from k → Contains found from
all_found graph k found climbed there zero from path = subst (Contains found) (sym path) there
all_found graph k found climbed there (suc edges) from path =
    let lower = all_found graph k found climbed there edges path.0 path.2 in
    let at = place_from_among found path.0 (among_from_Contains found path.0 lower) in
    climbed at.0 path.0 from (slice_get_within found at.0 path.0 at.1) at.1 path.1

-- the climb ended where nothing was left, or at its depth
abbrev pub HasEnded : ℕ → ℕ → ℕ → Keys → Type 0
HasEnded depth edges climbed found = (climbed ≡ length found) ⊎ ((depth ≢ 0) × (edges ≡ depth))

pub up_found : (graph : List Node) (k : Descriptor) (depth edges climbed : ℕ) (found keys : Keys) → IsFoundWithin graph k edges found → IsClimbed graph climbed found → IsWithinDepth depth edges → HasEnded depth edges climbed found
    → ((from : Descriptor) → Contains keys from ↔ Contains found from) → IsStrictlySortedBy key_cmp keys → IsUp graph k depth keys
up_found graph k depth edges climbed found keys within all deep ended each order = record { each = λ from. (λ h. to from ((each from).0 h), λ p. (each from).1 (back from p.0 p.1 p.2)); order = order }
  where
    to : (from : Descriptor) → Contains found from → (n : ℕ) × IsWithinDepth depth n × HasPath graph n from k
    to from h =
        let p = (within from).0 h in
        (p.0, λ limited. omega (arith, p.1, deep limited), p.2)

    back : (from : Descriptor) (n : ℕ) → IsWithinDepth depth n → HasPath graph n from k → Contains found from
    back from n near path =
        elim ended [
          | inl empty ↦ all_found graph k found (subst (λ (m : ℕ). IsClimbed graph m found) empty all) ((within k).1 (zero, omega arith, refl)) n from path
          | inr top ↦ (within from).1 (n, omega (arith, near top.0, top.1), path)
        ]
