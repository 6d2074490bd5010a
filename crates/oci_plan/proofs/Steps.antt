-- Each step of the search leaves it sound.
use Rattle.std.proofs.Common.{◌≡◌, ◌≢◌, ℕ, ◌+◌, ◌-◌, ◌<◌, ◌≤◌, inl, inr, List, [], ◌∷◌, ◌++◌, length, take, set, get_or, sym, ap, ◌∙◌, arith, subst, length-append, Some}
use Rattle.std.specs.Prelude.{All, Contains, sum_by, slice_get}
use Rattle.std.proofs.lemmas.List.{length-set}
use Rattle.std.proofs.Math.Seq.{take-length}
use Rattle.std.proofs.lemmas.List.Sums.{sum_by-set}
use Rattle.std.proofs.lemmas.List.Elements.{Contains-push, Contains-push_cases, Contains-append_left, All-more}
use Rattle.std.proofs.lemmas.Option.{slice_get_within, slice_get-get_or}
use Rattle.oci_plan.specs.Graph.{successors_of, HasEdge}
use Rattle.oci_plan.specs.Search.{progress_of, done_count, steps_left, work_left, KeepsMet, EndsWith, IsSound}
use Rattle.oci_plan.specs.declared.ordering.search.Progress.{Progress}
use Rattle.oci_plan.specs.declared.ordering.search.Progress.TheVariants.{New, Open, Done}
use Rattle.oci_plan.proofs.Lists.{IsDistinct-push, IsDistinct-take, IsPath-push, IsPath-take, FollowsSuccessors-push, All-Contains_push, Contains-before_end, absent-before_end, Contains-take}
use Rattle.oci_plan.proofs.Progress.{same_or_other, changed, unchanged}

-- the counted numbers are as many as before, and one more where a number became done
done_count-set : (progress : List Progress) (n count : ℕ) (old new : Progress) → n < length progress → progress_of progress n ≡ old → sum_by done_count progress ≡ count → sum_by done_count (set progress n new) + done_count old ≡ count + done_count new
done_count-set progress n count old new below was counted =
    let total : sum_by done_count (set progress n new) + done_count (progress_of progress n) ≡ sum_by done_count progress + done_count new = sum_by-set done_count progress n new New below in
    let at : done_count (progress_of progress n) ≡ done_count old = ap done_count was in
    omega (arith, total, at)

-- less work is left where fewer steps are left at one number
pub less_work : (progress : List Progress) (n : ℕ) (old new : Progress) → n < length progress → progress_of progress n ≡ old → steps_left new < steps_left old → work_left (set progress n new) < work_left progress
less_work progress n old new below was less =
    let total : sum_by steps_left (set progress n new) + steps_left (progress_of progress n) ≡ sum_by steps_left progress + steps_left new = sum_by-set steps_left progress n new New below in
    let at : steps_left (progress_of progress n) ≡ steps_left old = ap steps_left was in
    omega (arith, total, at, less)

-- what was met is still met where one number changes to a met one
pub keeps_met : (progress : List Progress) (n : ℕ) (new : Progress) → n < length progress → new ≢ New → KeepsMet progress (set progress n new)
keeps_met progress n new below met = λ m was. elim (same_or_other m n) [
  | inl same ↦ λ e. met (sym (changed progress n new below) ∙ ap (progress_of (set progress n new)) (sym same) ∙ e)
  | inr other ↦ λ e. was (sym (unchanged progress n m new other) ∙ e)
]

-- a new number is put at the path's end
pub entered : (lists : List (List ℕ)) (progress : List Progress) (path sequence : List ℕ) (n : ℕ) → n < length lists → progress_of progress n ≡ New → ((last : ℕ) → EndsWith path last → HasEdge lists last n) → IsSound lists progress path sequence → IsSound lists (set progress n (Open 0)) (path ++ n ∷ []) sequence
entered lists progress path sequence n number fresh edge s =
    let below : n < length progress = omega (arith, s.known) in
    let now : progress_of (set progress n (Open 0)) n ≡ Open 0 = changed progress n (Open 0) below in
    record {
      known = length-set progress n (Open 0) ∙ s.known;
      path_open = λ m here. elim (Contains-push_cases path n m here) [
        | inl old ↦
            let held = s.path_open m old in
            let other : m ≢ n = λ e. (let both : Open held.0 ≡ New = sym held.1 ∙ ap (progress_of progress) e ∙ fresh in cc) in
            (held.0, unchanged progress n m (Open 0) other ∙ held.1)
        | inr same ↦ (0, ap (progress_of (set progress n (Open 0))) (sym same) ∙ now)
      ];
      open_path = λ m count held. elim (same_or_other m n) [
        | inl same ↦ subst (Contains (path ++ n ∷ [])) (sym same) (Contains-push path n)
        | inr other ↦ Contains-append_left path (n ∷ []) m (s.open_path m count (sym (unchanged progress n m (Open 0) other) ∙ held))
      ];
      path_distinct = IsDistinct-push path n s.path_distinct (λ here. (let held = s.path_open n here in let both : Open held.0 ≡ New = sym held.1 ∙ fresh in cc));
      is_path = IsPath-push lists path n s.is_path edge;
      sequence_done = λ m here.
          let done : progress_of progress m ≡ Done = s.sequence_done m here in
          let other : m ≢ n = λ e. (let both : Done ≡ New = sym done ∙ ap (progress_of progress) e ∙ fresh in cc) in
          unchanged progress n m (Open 0) other ∙ done;
      done_sequence = λ m done. elim (same_or_other m n) [
        | inl same ↦ (let both : Open 0 ≡ Done = sym now ∙ ap (progress_of (set progress n (Open 0))) (sym same) ∙ done in cc)
        | inr other ↦ s.done_sequence m (sym (unchanged progress n m (Open 0) other) ∙ done)
      ];
      sequence_distinct = s.sequence_distinct;
      follows = s.follows;
      finished = λ m count held. elim (same_or_other m n) [
        | inl same ↦
            let both : Open 0 ≡ Open count = sym now ∙ ap (progress_of (set progress n (Open 0))) (sym same) ∙ held in
            let none : count ≡ 0 = cc in
            rw none (omega arith, λ k d lt. absurd (omega arith))
        | inr other ↦ s.finished m count (sym (unchanged progress n m (Open 0) other) ∙ held)
      ];
      counted = (let total : sum_by done_count (set progress n (Open 0)) + done_count New ≡ length sequence + done_count (Open 0) = done_count-set progress n (length sequence) New (Open 0) below fresh s.counted in omega (arith, total));
    }

-- one more successor of an held number is done
pub advanced : (lists : List (List ℕ)) (progress : List Progress) (path sequence : List ℕ) (n count next : ℕ) → n < length lists → progress_of progress n ≡ Open count → slice_get (successors_of lists n) count ≡ Some next → progress_of progress next ≡ Done → IsSound lists progress path sequence → IsSound lists (set progress n (Open (count + 1))) path sequence
advanced lists progress path sequence n count next number was found done s =
    let below : n < length progress = omega (arith, s.known) in
    let now : progress_of (set progress n (Open (count + 1))) n ≡ Open (count + 1) = changed progress n (Open (count + 1)) below in
    let within : count < length (successors_of lists n) = slice_get_within (successors_of lists n) count next found in
    let read : Some (get_or (successors_of lists n) count 0) ≡ Some next = sym (slice_get-get_or (successors_of lists n) count 0 within) ∙ found in
    let at : get_or (successors_of lists n) count 0 ≡ next = cc in
    record {
      known = length-set progress n (Open (count + 1)) ∙ s.known;
      path_open = λ m here. elim (same_or_other m n) [
        | inl same ↦ (count + 1, ap (progress_of (set progress n (Open (count + 1)))) same ∙ now)
        | inr other ↦ (let held = s.path_open m here in (held.0, unchanged progress n m (Open (count + 1)) other ∙ held.1))
      ];
      open_path = λ m c held. elim (same_or_other m n) [
        | inl same ↦ subst (Contains path) (sym same) (s.open_path n count was)
        | inr other ↦ s.open_path m c (sym (unchanged progress n m (Open (count + 1)) other) ∙ held)
      ];
      path_distinct = s.path_distinct;
      is_path = s.is_path;
      sequence_done = λ m here.
          let old : progress_of progress m ≡ Done = s.sequence_done m here in
          let other : m ≢ n = λ e. (let both : Done ≡ Open count = sym old ∙ ap (progress_of progress) e ∙ was in cc) in
          unchanged progress n m (Open (count + 1)) other ∙ old;
      done_sequence = λ m new. elim (same_or_other m n) [
        | inl same ↦ (let both : Open (count + 1) ≡ Done = sym now ∙ ap (progress_of (set progress n (Open (count + 1)))) (sym same) ∙ new in cc)
        | inr other ↦ s.done_sequence m (sym (unchanged progress n m (Open (count + 1)) other) ∙ new)
      ];
      sequence_distinct = s.sequence_distinct;
      follows = s.follows;
      finished = λ m c held. elim (same_or_other m n) [
        | inl same ↦
            let both : Open (count + 1) ≡ Open c = sym now ∙ ap (progress_of (set progress n (Open (count + 1)))) (sym same) ∙ held in
            let one_more : c ≡ count + 1 = cc in
            let here : Contains sequence (get_or (successors_of lists n) count 0) = subst (Contains sequence) (sym at) (s.done_sequence next done) in
            rw (same, one_more) (omega arith, All-more (Contains sequence) (successors_of lists n) count 0 within (s.finished n count was).1 here)
        | inr other ↦ s.finished m c (sym (unchanged progress n m (Open (count + 1)) other) ∙ held)
      ];
      counted = (let total : sum_by done_count (set progress n (Open (count + 1))) + done_count (Open count) ≡ length sequence + done_count (Open (count + 1)) = done_count-set progress n (length sequence) (Open count) (Open (count + 1)) below was s.counted in omega (arith, total));
    }

-- an open number with all its successors done goes from the path's end into the sequence
pub left : (lists : List (List ℕ)) (progress : List Progress) (path sequence : List ℕ) (n count : ℕ) → n < length lists → EndsWith path n → progress_of progress n ≡ Open count → length (successors_of lists n) ≤ count → IsSound lists progress path sequence → IsSound lists (set progress n Done) (take (length path - 1) path) (sequence ++ n ∷ [])
left lists progress path sequence n count number ends was all s =
    let below : n < length progress = omega (arith, s.known) in
    let now : progress_of (set progress n Done) n ≡ Done = changed progress n Done below in
    let fits : length path - 1 ≤ length path = omega arith in
    let counted_all : count ≡ length (successors_of lists n) = omega (arith, (s.finished n count was).0) in
    let whole : take count (successors_of lists n) ≡ successors_of lists n = ap (λ (k : ℕ). take k (successors_of lists n)) counted_all ∙ take-length (successors_of lists n) in
    let ready : All (Contains sequence) (successors_of lists n) = subst (All (Contains sequence)) whole (s.finished n count was).1 in
    let absent : Contains sequence n → ⊥ = λ here. (let both : Done ≡ Open count = sym (s.sequence_done n here) ∙ was in cc) in
    record {
      known = length-set progress n Done ∙ s.known;
      path_open = λ m here.
          let other : m ≢ n = λ e. absent-before_end path n ends s.path_distinct (subst (Contains (take (length path - 1) path)) e here) in
          let held = s.path_open m (Contains-take (length path - 1) path m fits here) in
          (held.0, unchanged progress n m Done other ∙ held.1);
      open_path = λ m c held. elim (same_or_other m n) [
        | inl same ↦ (let both : Done ≡ Open c = sym now ∙ ap (progress_of (set progress n Done)) (sym same) ∙ held in cc)
        | inr other ↦ Contains-before_end path n m ends other (s.open_path m c (sym (unchanged progress n m Done other) ∙ held))
      ];
      path_distinct = IsDistinct-take (length path - 1) path fits s.path_distinct;
      is_path = IsPath-take lists (length path - 1) path fits s.is_path;
      sequence_done = λ m here. elim (Contains-push_cases sequence n m here) [
        | inl old ↦
            let done : progress_of progress m ≡ Done = s.sequence_done m old in
            let other : m ≢ n = λ e. (let both : Done ≡ Open count = sym done ∙ ap (progress_of progress) e ∙ was in cc) in
            unchanged progress n m Done other ∙ done
        | inr same ↦ ap (progress_of (set progress n Done)) (sym same) ∙ now
      ];
      done_sequence = λ m done. elim (same_or_other m n) [
        | inl same ↦ subst (Contains (sequence ++ n ∷ [])) (sym same) (Contains-push sequence n)
        | inr other ↦ Contains-append_left sequence (n ∷ []) m (s.done_sequence m (sym (unchanged progress n m Done other) ∙ done))
      ];
      sequence_distinct = IsDistinct-push sequence n s.sequence_distinct absent;
      follows = FollowsSuccessors-push lists sequence n s.follows ready;
      finished = λ m c held. elim (same_or_other m n) [
        | inl same ↦ (let both : Done ≡ Open c = sym now ∙ ap (progress_of (set progress n Done)) (sym same) ∙ held in cc)
        | inr other ↦
            let old = s.finished m c (sym (unchanged progress n m Done other) ∙ held) in
            (old.0, All-Contains_push (take c (successors_of lists m)) sequence n old.1)
      ];
      counted =
          let total : sum_by done_count (set progress n Done) + done_count (Open count) ≡ length sequence + done_count Done = done_count-set progress n (length sequence) (Open count) Done below was s.counted in
          let longer : length (sequence ++ n ∷ []) ≡ length sequence + 1 = length-append sequence (n ∷ []) in
          omega (arith, total, longer);
    }
