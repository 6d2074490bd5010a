-- Which files an answer names.
use Rattle.std.proofs.Common.{◌≡◌, ◌⊎◌, inl, inr, ℕ, zero, suc, Option, None, Bool, true, List, [], ◌∷◌, ◌++◌, length, map, replicate, Ordering, String, Global, Bor, Iter, refl, sym, ap, subst, ◌∙◌, arith}
use Rattle.std.specs.Cmp.{IsStrictWeakOrder, IsTotalOrder}
use Rattle.std.specs.Fn.{Called, ComparesAs}
use Rattle.std.specs.List.Sorted.{IsSortedBy, IsSortedByKey}
use Rattle.std.specs.Ordering.{is_lt}
use Rattle.std.proofs.lemmas.Fn.{always_returns_same}
use Rattle.std.proofs.lemmas.List.{append-nil, nil_from_length}
use Rattle.std.proofs.lemmas.List.MinMax.{ranks_by}
use Rattle.std.specs.declared.iter.Zip.{Zip}
use Rattle.std.specs.declared.vec.IntoIter.{IntoIter}
use Rattle.std.proofs.lemmas.Iterator.{zips}
use Rattle.std.proofs.iter.Yields.{fronts}
use Rattle.std.specs.Iterator.Adapters.{zip_first, zip_second}
use Rattle.std.specs.Vec.Iter.{into_iter_items, into_iter_steps}
use denote.Param.Members.{Mut}
use Rattle.oci_dir.specs.Prunable.{by_name}
use Rattle.oci_prune.specs.Pruned.{flagged}
use Rattle.oci_prune.specs.declared.plan.PrunedFile.{PrunedFile}
use Rattle.oci_prune_answer.specs.Pruned.{of_both, of_draft, of_file, shown, NamedFile}
use Rattle.oci_prune_answer.specs.declared.prune_answer.RemovedFile.{RemovedFile}

-- where there are no flags, none is true
pub flagged-nil : {X : Type 0} (xs : List X) → flagged xs [] ≡ []
flagged-nil [] = refl
flagged-nil (x ∷ xs) = refl

-- where there are no elements, or no flags, nothing is left
pub none_left : {X : Type 0} (so_far all : List NamedFile) (f : X → NamedFile) (xs : List X) (flags : List Bool) → (xs ≡ []) ⊎ (flags ≡ []) → so_far ++ map f (flagged xs flags) ≡ all → so_far ≡ all
none_left so_far all f xs flags over is = sym (ap (λ ys. so_far ++ map f ys) (none over) ∙ append-nil so_far) ∙ is
  where
    none : (xs ≡ []) ⊎ (flags ≡ []) → flagged xs flags ≡ []
    none (inl empty) = ap (λ ys. flagged ys flags) empty
    none (inr empty) = ap (flagged xs) empty ∙ flagged-nil xs

-- a loop over drafts beside their flags has ended
pub drafts_over : (s t : Zip (IntoIter (String Global × ℕ) Global) (Iter Bool)) (r : Option ((String Global × ℕ) × Bor Bool)) → r ≡ None → zips (into_iter_steps {X = String Global × ℕ} {Z = Global}) (fronts {A = Bool}) s r t → (by_name (into_iter_items (zip_first s)) ≡ []) ⊎ ((zip_second s).rest.now ≡ [])
drafts_over s t r e h = by (subst (λ o. zips into_iter_steps fronts s o t) e h)
  where
    by : zips (into_iter_steps {X = String Global × ℕ} {Z = Global}) (fronts {A = Bool}) s None t → (by_name (into_iter_items (zip_first s)) ≡ []) ⊎ ((zip_second s).rest.now ≡ [])
    by (inl a) = inl (ap by_name (nil_from_length (into_iter_items (zip_first s)) (omega (arith, a.1.0, (zip_first s).rest.ok.0))))
    by (inr b) = inr (nil_from_length _ b.1.0)

-- where each flag is true, it is the whole list
pub flagged-all : {X : Type 0} (xs : List X) (n : ℕ) → n ≡ length xs → flagged xs (replicate n true) ≡ xs
flagged-all [] n same = refl
flagged-all (x ∷ xs) zero same = cc same
flagged-all (x ∷ xs) (suc n) same = ap (λ ys. x ∷ ys) (flagged-all xs n (cc same))

-- after a sort by an order of keys, the keys ascend
pub IsSortedByKey-from_sort_by : {X K : Type 0} (key : X → K) {cmp : K → K → Ordering} (total : IsTotalOrder cmp) {F : Type 0} {g : Mut F (Bor X × (Bor X × Unit {0})) Ordering} {f : F} (xs : List X)
    → ((lt : X → X → Bool) → IsStrictWeakOrder lt → ComparesAs g lt f → IsSortedBy lt xs)
    → ((a : Bor X × (Bor X × Unit {0})) (r : Ordering) (f' : F) → Called g f a r f' → (r ≡ cmp (key a.0.now) (key a.1.0.now)) × (f' ≡ f)) → IsSortedByKey key cmp xs
IsSortedByKey-from_sort_by key {cmp = cmp} total {g = g} {f = f} xs up h = up (λ x y. is_lt (cmp (key x) (key y))) (ranks_by total key)
    (always_returns_same g (λ a r. is_lt r ≡ is_lt (cmp (key a.0.now) (key a.1.0.now))) f (λ a r f' k. (ap is_lt (h a r f' k).0, (h a r f' k).1)))

-- first the files were added to no files, and then the drafts
pub both_added : (none first both : List RemovedFile) (files fs : List PrunedFile) (flags hs : List Bool) (drafts : List (String Global × ℕ)) (draft_flags gs : List Bool) → none ≡ [] → fs ≡ files → hs ≡ flags → gs ≡ draft_flags
    → shown first ≡ shown none ++ map of_file (flagged fs hs) → shown both ≡ shown first ++ map of_draft (flagged (by_name drafts) gs) → shown both ≡ of_both (flagged files flags) (flagged (by_name drafts) draft_flags)
both_added none first both files fs flags hs drafts draft_flags gs empty same_files same_flags same_drafts add_files add_drafts =
    let named : shown first ≡ map of_file (flagged files flags) = rw (empty, same_files, same_flags) at add_files in
    rw (named, same_drafts) at add_drafts
