-- The task of a plan, and what is left when it was done.
use Rattle.std.proofs.Common.{◌≡◌, ℕ, zero, suc, ◌+◌, ◌<◌, true, inl, inr, List, [], ◌∷◌, ◌++◌, map, length, take, get_or, Bool, cond, false, append-nil, refl, sym, ap, subst, ◌∙◌, arith}
use Rattle.std.specs.Prelude.{◌↔◌, ◌⊎◌, Contains}
use Rattle.std.specs.BTreeSet.{BTreeSet, contains}
use Rattle.std.specs.List.{All}
use Rattle.std.specs.List.Sorted.{IsStrictlySortedBy}
use Rattle.std.proofs.lemmas.List.{length-map, map-append, take_more}
use Rattle.std.proofs.lemmas.List.Elements.{All-contains, All-contains_itself, All-map, All-weaker, Contains-append_left, Contains-append_cases, Contains-append_right, Contains-push, Contains-push_cases}
use Rattle.std.proofs.lemmas.Map.Views.{btree_set_contains_iff}
use Rattle.oci_dir.specs.Device.{Device, File, Same}
use Rattle.oci_manifest.specs.Descriptor.{Descriptor, is_among, key_cmp}
use Rattle.oci_store.proofs.KeyOrder.{key_cmp_total, key_cmp_exact}
use Rattle.oci_store.proofs.Membership.{Contains-from_among, among_from_Contains}
use Rattle.oci_repair.specs.Repaired.{HasMatch, IsOldOrMatch}
use Rattle.oci_repair.specs.declared.plan.RepairPlan.{RepairPlan}
use Rattle.oci_repair.proofs.Mended.{firsts, wider}
use Rattle.oci_repair_commands.specs.Repaired.{IsSplit, IsTaskOf}
use Rattle.oci_repair_commands.specs.declared.plan.Task.{Task}

abbrev Mend : Type 0
Mend = Descriptor × ℕ

-- ---- one more

pub firsts_more : (mends : List Mend) (i : ℕ) (m : Mend) → i < length mends → m ≡ get_or mends i m → firsts (take (i + 1) mends) ≡ firsts (take i mends) ++ m.0 ∷ []
firsts_more mends i m lt at = ap firsts (take_more mends i m lt ∙ ap (λ (x : Mend). take i mends ++ x ∷ []) (sym at)) ∙ map-append (λ (x : Mend). x.0) (take i mends) (m ∷ [])

pub split_put : (all mends blocked : List Mend) (m : Mend) → IsSplit all mends blocked → IsSplit (all ++ m ∷ []) (mends ++ m ∷ []) blocked
split_put all mends blocked m is x = (
  λ c. elim (Contains-push_cases all m x c) [
    | inl was ↦ elim ((is x).0 was) [ inl put ↦ inl (Contains-append_left mends (m ∷ []) x put) | inr other ↦ inr other ]
    | inr same ↦ inl (subst (λ (y : Mend). Contains (mends ++ m ∷ []) y) same (Contains-push mends m))
  ],
  λ h. elim h [
    | inl put ↦ elim (Contains-push_cases mends m x put) [
      | inl was ↦ Contains-append_left all (m ∷ []) x ((is x).1 (inl was))
      | inr same ↦ subst (λ (y : Mend). Contains (all ++ m ∷ []) y) same (Contains-push all m)
    ]
    | inr other ↦ Contains-append_left all (m ∷ []) x ((is x).1 (inr other))
  ],
)

pub split_blocked : (all mends blocked : List Mend) (m : Mend) → IsSplit all mends blocked → IsSplit (all ++ m ∷ []) mends (blocked ++ m ∷ [])
split_blocked all mends blocked m is x = (
  λ c. elim (Contains-push_cases all m x c) [
    | inl was ↦ elim ((is x).0 was) [ inl put ↦ inl put | inr other ↦ inr (Contains-append_left blocked (m ∷ []) x other) ]
    | inr same ↦ inr (subst (λ (y : Mend). Contains (blocked ++ m ∷ []) y) same (Contains-push blocked m))
  ],
  λ h. elim h [
    | inl put ↦ Contains-append_left all (m ∷ []) x ((is x).1 (inl put))
    | inr other ↦ elim (Contains-push_cases blocked m x other) [
      | inl was ↦ Contains-append_left all (m ∷ []) x ((is x).1 (inr was))
      | inr same ↦ subst (λ (y : Mend). Contains (all ++ m ∷ []) y) same (Contains-push all m)
    ]
  ],
)

pub split_more : (all mends blocked puts blocks : List Mend) (m : Mend) (b : Bool) → IsSplit all mends blocked → puts ≡ mends ++ cond b [] (m ∷ []) → blocks ≡ blocked ++ cond b (m ∷ []) [] → IsSplit (all ++ m ∷ []) puts blocks
split_more all mends blocked puts blocks m true is put other = rw (put ∙ append-nil mends, other) (split_blocked all mends blocked m is)
split_more all mends blocked puts blocks m false is put other = rw (put, other ∙ append-nil blocked) (split_put all mends blocked m is)

-- ---- keys in order

pub in_set : (set : BTreeSet Descriptor) (keys sorted : List Descriptor) → ((k : Descriptor) → contains key_cmp set k ≡ is_among keys k) → sorted ≡ set.keys → (k : Descriptor) → Contains sorted k ↔ Contains keys k
in_set set keys sorted is are k =
    let iff = btree_set_contains_iff key_cmp_total key_cmp_exact set k in (
      λ c. Contains-from_among keys k (sym (is k) ∙ iff.1 (subst (λ (ks : List Descriptor). Contains ks k) are c)),
      λ c. subst (λ (ks : List Descriptor). Contains ks k) (sym are) (iff.0 (is k ∙ among_from_Contains keys k c)),
    )

-- ---- the keys of mends

get_or-firsts : (ms : List Mend) (i : ℕ) (d : Mend) → get_or (firsts ms) i d.0 ≡ (get_or ms i d).0
get_or-firsts [] i d = refl
get_or-firsts (m ∷ ms) zero d = refl
get_or-firsts (m ∷ ms) (suc i) d = get_or-firsts ms i d

unmapped : (P : Descriptor → Type 0) (ms : List Mend) → All P (firsts ms) → All (λ (x : Mend). P x.0) ms
unmapped P ms are i d lt = subst P (get_or-firsts ms i d) (are i d.0 (subst (λ (n : ℕ). i < n) (sym (length-map ms (λ (x : Mend). x.0))) lt))

pub key_in : (mends : List Mend) (m : Mend) → Contains mends m → Contains (firsts mends) m.0
key_in mends m there = All-contains (λ (x : Mend). Contains (firsts mends) x.0) mends m (unmapped (Contains (firsts mends)) mends (All-contains_itself (firsts mends))) there

from_firsts : (all mends blocked : List Mend) → IsSplit all mends blocked → (k : Descriptor) → Contains (firsts blocked) k → Contains (firsts all) k
from_firsts all mends blocked is k there =
    All-contains (Contains (firsts all)) (firsts blocked) k
    (All-map (Contains (firsts all)) (λ (x : Mend). x.0) blocked (All-weaker (Contains blocked) (λ (x : Mend). Contains (firsts all) x.0) (λ x at. key_in all x ((is x).1 (inr at))) blocked (All-contains_itself blocked)))
    there

-- ---- the task

pub task_is : (plan : RepairPlan) (task : Task) (blocked : List Mend) → IsSplit plan.mends.items task.mends.items blocked
    → ((k : Descriptor) → Contains task.answer.repaired.items k ↔ Contains (firsts task.mends.items) k)
    → ((k : Descriptor) → Contains task.answer.missing.items k ↔ Contains (firsts blocked ++ plan.missing.items) k)
    → IsStrictlySortedBy key_cmp task.answer.repaired.items → IsStrictlySortedBy key_cmp task.answer.missing.items → IsTaskOf plan task
task_is plan task blocked is repaired missing order missing_order = record {
  put = λ m at. (is m).1 (inl at);
  each = λ m at. (elim ((is m).0 at) [ inl put ↦ inl put | inr other ↦ inr ((missing m.0).1 (Contains-append_left (firsts blocked) plan.missing.items m.0 (key_in blocked m other))) ]);
  repaired = repaired;
  missing = λ k at. (missing k).1 (Contains-append_right (firsts blocked) plan.missing.items k at);
  only = λ k at. (elim (Contains-append_cases (firsts blocked) plan.missing.items k ((missing k).0 at)) [
    | inl other ↦ inr (from_firsts plan.mends.items task.mends.items blocked is k other)
    | inr lacking ↦ inl lacking
  ]);
  order = order;
  missing_order = missing_order;
}

-- ---- what is left

pub all_repaired : (file : File) (mends : List Mend) (keys : List Descriptor) → All (λ (m : Mend). HasMatch file m.0) mends → ((k : Descriptor) → Contains keys k → Contains (firsts mends) k) → All (HasMatch file) keys
all_repaired file mends keys are within =
    All-weaker (Contains keys) (HasMatch file) (λ k at. All-contains (HasMatch file) (firsts mends) k (All-map (HasMatch file) (λ (m : Mend). m.0) mends are) (within k at)) keys (All-contains_itself keys)

match_same : (old new : File) (k : Descriptor) → Same old new → HasMatch old k → HasMatch new k
match_same old new k same h = (h.0, same _ ∙ h.1, h.2)

pub all_same : (old new : File) (keys : List Descriptor) → Same old new → All (HasMatch old) keys → All (HasMatch new) keys
all_same old new keys same are = All-weaker (HasMatch old) (HasMatch new) (λ k h. match_same old new k same h) keys are

pub old_or_same : (old mid new : File) (keys : List Descriptor) → Same mid new → IsOldOrMatch old mid keys → IsOldOrMatch old new keys
old_or_same old mid new keys same is q = elim (is q) [
  | inl was ↦ inl (same q ∙ was)
  | inr m ↦ inr (m.0, m.1, m.2, match_same mid new m.0 same m.3)
]
