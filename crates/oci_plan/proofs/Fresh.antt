-- The keys that are not held among all that are visited.
use Rattle.std.proofs.Common.{◌≡◌, Bool, true, false, cond, inl, inr, List, [], ◌∷◌, ◌++◌, refl, sym, ap, ◌∙◌, append-nil}
use Rattle.std.specs.List.{filter}
use Rattle.std.proofs.lemmas.List.Elements.{filter-append}
use Rattle.std.proofs.lemmas.Bool.{cases_Bool}
use Rattle.oci_manifest.specs.Descriptor.{Descriptor, is_among}
use Rattle.oci_store.specs.Graph.{Node}
use Rattle.oci_store.specs.Visiting.{with_key, with_keys}
use Rattle.oci_store.proofs.Membership.{Keys, among-filter, among_filter_from}
use Rattle.oci_store.proofs.Visits.{first_places-all}
use Rattle.oci_plan.specs.Visiting.{is_fresh, passes}
use Rattle.oci_plan.specs.declared.gathering.Existing.{Existing}
use Rattle.oci_plan.specs.declared.gathering.Existing.TheVariants.{Skip, Descend}

-- ---- the keys that pass, of a list with one more key

pub filter-push_kept : (p : Descriptor → Bool) (ks : Keys) (k : Descriptor) → p k ≡ true → filter p (ks ++ k ∷ []) ≡ filter p ks ++ k ∷ []
filter-push_kept p ks k keeps = filter-append p ks (k ∷ []) ∙ ap (λ (b : Bool). filter p ks ++ cond b (k ∷ []) []) keeps

pub filter-push_dropped : (p : Descriptor → Bool) (ks : Keys) (k : Descriptor) → p k ≡ false → filter p (ks ++ k ∷ []) ≡ filter p ks
filter-push_dropped p ks k drops = filter-append p ks (k ∷ []) ∙ ap (λ (b : Bool). filter p ks ++ cond b (k ∷ []) []) drops ∙ append-nil (filter p ks)

absent-filter : (p : Descriptor → Bool) (ks : Keys) (k : Descriptor) → is_among ks k ≡ false → is_among (filter p ks) k ≡ false
absent-filter p ks k new =
    elim (cases_Bool (is_among (filter p ks) k)) [
      | inl there ↦ (let old = (among-filter p ks k there).1 in cc (sym new ∙ old))
      | inr absent ↦ absent
    ]

filter-with_key_kept : (p : Descriptor → Bool) (ks : Keys) (k : Descriptor) → p k ≡ true → filter p (with_key ks k) ≡ with_key (filter p ks) k
filter-with_key_kept p ks k keeps =
    elim (cases_Bool (is_among ks k)) [
      | inl there ↦
          let kept = among_filter_from p ks k keeps there in
          rw (there, kept) refl
      | inr new ↦
          let absent = absent-filter p ks k new in
          rw (new, absent) (filter-push_kept p ks k keeps)
    ]

filter-with_key_dropped : (p : Descriptor → Bool) (ks : Keys) (k : Descriptor) → p k ≡ false → filter p (with_key ks k) ≡ filter p ks
filter-with_key_dropped p ks k drops =
    elim (cases_Bool (is_among ks k)) [
      | inl there ↦ rw there refl
      | inr new ↦ rw new (filter-push_dropped p ks k drops)
    ]

filter-with_keys : (p : Descriptor → Bool) (ks more : Keys) → filter p (with_keys ks more) ≡ with_keys (filter p ks) (filter p more)
filter-with_keys p ks [] = refl
filter-with_keys p ks (k ∷ more) =
    filter-with_keys p (with_key ks k) more
    ∙ elim (cases_Bool (p k)) [
      | inl keeps ↦ ap (λ (t : Keys). with_keys t (filter p more)) (filter-with_key_kept p ks k keeps) ∙ ap (λ (b : Bool). with_keys (filter p ks) (cond b (k ∷ filter p more) (filter p more))) (sym keeps)
      | inr drops ↦ ap (λ (t : Keys). with_keys t (filter p more)) (filter-with_key_dropped p ks k drops) ∙ ap (λ (b : Bool). with_keys (filter p ks) (cond b (k ∷ filter p more) (filter p more))) (sym drops)
    ]

filter-twice : (p : Descriptor → Bool) (ks : Keys) → filter p (filter p ks) ≡ filter p ks
filter-twice p [] = refl
filter-twice p (k ∷ ks) =
    elim (cases_Bool (p k)) [
      | inl keeps ↦ rw keeps (rw keeps (ap (λ (t : Keys). k ∷ t) (filter-twice p ks)))
      | inr drops ↦ rw drops (filter-twice p ks)
    ]

-- ---- the keys that are not held

fresh_of_passing : (existing : Existing) (held : List Node) (ks : Keys) → filter (is_fresh held) (filter (passes existing held) ks) ≡ filter (is_fresh held) ks
fresh_of_passing Skip held ks = filter-twice (is_fresh held) ks
fresh_of_passing Descend held ks = ap (filter (is_fresh held)) (first_places-all ks)

-- where the keys are those that are not held of all, they are so with more of both
pub fresh_more : (existing : Existing) (held : List Node) (all keys more grown_all grown_keys : Keys) → keys ≡ filter (is_fresh held) all → grown_all ≡ with_keys all (filter (passes existing held) more)
    → grown_keys ≡ with_keys keys (filter (is_fresh held) more) → grown_keys ≡ filter (is_fresh held) grown_all
fresh_more existing held all keys more grown_all grown_keys kept is_all is_keys =
    is_keys ∙ ap (λ (t : Keys). with_keys t (filter (is_fresh held) more)) kept
    ∙ ap (with_keys (filter (is_fresh held) all)) (sym (fresh_of_passing existing held more))
    ∙ sym (filter-with_keys (is_fresh held) all (filter (passes existing held) more)) ∙ ap (filter (is_fresh held)) (sym is_all)
