use Rattle.std.proofs.Common.{ℕ, ◌≡◌, ◌<◌, ◌≤◌, get_or, vec_len, vec_capacity}
use Rattle.oci_pool.proofs.table.Table.list_all.Given as goal

abbrev pub invariant-loop-k : goal.invariant-loop-k
invariant-loop-k g l = record {
  room : vec_capacity l.all ≡ vec_capacity l.initial.all;
  here : vec_len l.all ≡ l.k;
  untouched : (j : ℕ) (d : _) → l.k ≤ j → get_or l.self j d ≡ get_or l.initial.self j d;
  related : (k : ℕ) (d : _) → k < vec_len l.all → g.T.RunStart.answers k (get_or l.all.items k d);
}
