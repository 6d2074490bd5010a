use Rattle.std.proofs.Common.{ℕ, ◌≡◌, ◌≢◌, ◌<◌, ◌≤◌, All, AllPairs, get_or, vec_len, vec_capacity}
use Rattle.std.specs.Prelude.{IsNone}
use Rattle.oci_pool.proofs.table.Table.list_done.Given as goal

abbrev pub invariant-loop-k : goal.invariant-loop-k
invariant-loop-k g l = record {
  room : vec_capacity l.done ≡ vec_capacity l.initial.done;
  few : vec_len l.done ≤ l.k;
  related : All (λ (p : _). g.T.RunStart.answers p.0 p.1) l.done.items;
  below : All (λ (p : _). p.0 < l.k) l.done.items;
  once : AllPairs (λ (p : _) (q : _). p.0 < q.0) l.done.items;
  untouched : (j : ℕ) (d : _) → l.k ≤ j → get_or l.self j d ≡ get_or l.initial.self j d;
  absent : (m : ℕ) → ((d : _) → IsNone (get_or l.initial.self m d)) → All (λ (p : _). p.0 ≢ m) l.done.items;
}
