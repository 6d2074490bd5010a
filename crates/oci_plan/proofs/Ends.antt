-- What is known of the number at the path's end, and of a search that has come to its end.
use Rattle.std.proofs.Common.{◌≡◌, ◌≢◌, ℕ, ◌+◌, ◌-◌, ◌<◌, ◌≤◌, List, [], ◌∷◌, length, get_or, refl, sym, ap, ◌∙◌, arith, subst, Some, None, suc, inl, inr}
use Rattle.std.specs.Prelude.{Contains, sum_by, slice_get, unwrap_or}
use Rattle.std.specs.Global.{Vec}
use Rattle.std.proofs.lemmas.Bool.{cases_lt}
use Rattle.std.proofs.lemmas.List.{length-map}
use Rattle.std.proofs.lemmas.Grind.{get_or_default_zero}
use Rattle.std.proofs.lemmas.List.Elements.{Contains-get_or}
use Rattle.std.proofs.lemmas.List.Sums.{sum_by-append}
use Rattle.std.proofs.lemmas.Option.{slice_get_within, slice_get_read, slice_get-get_or, unwrap_or-slice_get}
use Rattle.oci_plan.specs.Graph.{lists_of, successors_of, HasEdge, IsGraph}
use Rattle.oci_plan.specs.Order.{IsTopological}
use Rattle.oci_plan.specs.Search.{progress_of, done_count, EndsWith, IsSound}
use Rattle.oci_plan.specs.declared.ordering.search.Progress.{Progress}
use Rattle.oci_plan.specs.declared.ordering.search.Progress.TheVariants.{New, Open, Done}
use Rattle.oci_plan.proofs.Progress.{met_below}

-- as many lists as vectors
pub length-lists_of : (vectors : List (Vec ℕ)) → length (lists_of vectors) ≡ length vectors
length-lists_of vectors = length-map vectors (λ (v : Vec ℕ). v.items)

-- a read that finds nothing is past the end
pub past_end : (xs : List ℕ) (k : ℕ) → slice_get xs k ≡ None → length xs ≤ k
past_end xs k none = elim (cases_lt k (length xs)) [
  | inl lt ↦ (let both : Some (get_or xs k 0) ≡ None = sym (slice_get-get_or xs k 0 lt) ∙ none in cc)
  | inr past ↦ past
]

-- a read of the progress at a number
pub read_progress : (progress : List Progress) (n : ℕ) (p : Progress) → n < length progress → p ≡ get_or progress n p → progress_of progress n ≡ p
read_progress progress n p below read = sym (unwrap_or-slice_get progress n New) ∙ ap (λ o. unwrap_or o New) (slice_get_read progress (length progress) n p refl below read)

-- the end stands on the path
pub Contains-end : (path : List ℕ) (n : ℕ) → EndsWith path n → Contains path n
Contains-end path n ends =
    let lt : length path - 1 < length path = omega arith in
    (length path - 1, lt, get_or_default_zero path (length path - 1) n lt ∙ ends.last)

-- a path has one end
pub EndsWith-same : (path : List ℕ) (m n : ℕ) → EndsWith path m → EndsWith path n → m ≡ n
EndsWith-same path m n a b = sym a.last ∙ b.last

-- the end is open
pub open_end : (lists : List (List ℕ)) (progress : List Progress) (path sequence : List ℕ) (n : ℕ) → IsSound lists progress path sequence → EndsWith path n → (count : ℕ) × (progress_of progress n ≡ Open count)
open_end lists progress path sequence n s ends = s.path_open n (Contains-end path n ends)

-- and a number of the graph
pub end_below : (lists : List (List ℕ)) (progress : List Progress) (path sequence : List ℕ) (n : ℕ) → IsSound lists progress path sequence → EndsWith path n → n < length lists
end_below lists progress path sequence n s ends =
    let held = open_end lists progress path sequence n s ends in
    let below : n < length progress = met_below progress n (λ e. (let both : Open held.0 ≡ New = sym held.1 ∙ e in cc)) in
    omega (arith, s.known, below)

-- what a list has at a place is a successor
pub edge_at : (lists : List (List ℕ)) (n count next : ℕ) → slice_get (successors_of lists n) count ≡ Some next → HasEdge lists n next
edge_at lists n count next found =
    let within : count < length (successors_of lists n) = slice_get_within (successors_of lists n) count next found in
    let read : Some (get_or (successors_of lists n) count next) ≡ Some next = sym (slice_get-get_or (successors_of lists n) count next within) ∙ found in
    let at : get_or (successors_of lists n) count next ≡ next = cc in
    (count, within, at)

-- and a number of the graph
pub next_below : (lists : List (List ℕ)) (n count next : ℕ) → IsGraph lists → slice_get (successors_of lists n) count ≡ Some next → next < length lists
next_below lists n count next graph found =
    let edge = edge_at lists n count next found in
    subst (λ (k : ℕ). k < length lists) edge.2 (graph n edge.0 next edge.1)

-- where each number is done, as many are done as there are
all_done : (progress : List Progress) → ((n : ℕ) → n < length progress → get_or progress n New ≡ Done) → sum_by done_count progress ≡ length progress
all_done [] done = refl
all_done (p ∷ progress) done =
    let first : done_count p ≡ 1 = ap done_count (done 0 (omega arith)) in
    let rest : sum_by done_count progress ≡ length progress = all_done progress (λ n lt. done (suc n) (omega arith)) in
    let sum : sum_by done_count (p ∷ progress) ≡ sum_by done_count (p ∷ []) + sum_by done_count progress = sum_by-append done_count (p ∷ []) progress in
    let one : sum_by done_count (p ∷ []) ≡ 0 + done_count p = refl in
    let len : length (p ∷ progress) ≡ suc (length progress) = refl in
    omega (arith, first, rest, sum, one, len)

-- what was met is done, where the path is empty
met_done : (lists : List (List ℕ)) (progress : List Progress) (sequence : List ℕ) (n : ℕ) (p : Progress) → IsSound lists progress [] sequence → progress_of progress n ≢ New → progress_of progress n ≡ p → p ≡ Done
met_done lists progress sequence n New s met is = absurd (met is)
met_done lists progress sequence n (Open count) s met is = (let here = s.open_path n count is in absurd (omega (arith, here.1)))
met_done lists progress sequence n Done s met is = refl

-- a search that has met each number and is back from its path has found an order
pub topological_at_end : (lists : List (List ℕ)) (progress : List Progress) (path sequence : List ℕ) → IsSound lists progress path sequence → path ≡ [] → ((n : ℕ) → n < length lists → progress_of progress n ≢ New) → IsTopological lists sequence
topological_at_end lists progress path sequence sound idle met =
    let s : IsSound lists progress [] sequence = subst (λ (p : List ℕ). IsSound lists progress p sequence) idle sound in
    let done : (n : ℕ) → n < length lists → progress_of progress n ≡ Done = λ n lt. met_done lists progress sequence n (progress_of progress n) s (met n lt) refl in
    record {
      numbers = λ k d lt.
          let is_done : progress_of progress (get_or sequence k d) ≡ Done = s.sequence_done (get_or sequence k d) (Contains-get_or sequence k d lt) in
          let below : get_or sequence k d < length progress = met_below progress (get_or sequence k d) (λ e. (let both : Done ≡ New = sym is_done ∙ e in cc)) in
          omega (arith, s.known, below);
      distinct = s.sequence_distinct;
      complete = λ n lt. s.done_sequence n (done n lt);
      len =
          let all : sum_by done_count progress ≡ length progress = all_done progress (λ n lt. done n (omega (arith, s.known))) in
          omega (arith, s.counted, s.known, all);
      follows = s.follows;
    }
