use Rattle.std.proofs.Common.{◌≡◌, ◌-◌, ◌^◌, List, min, string_bytes, sum_by, ap, subst, ◌∙◌, rules}
use Rattle.std.specs.Cmp.Lexicographic.{nat_list_cmp_total}
use Rattle.std.specs.List.Sorted.{IsPermutation}
use Rattle.std.proofs.lemmas.List.Sorted.{sum_by-IsPermutation, IsPermutation-map}
use Rattle.oci_prune_answer.specs.Pruned.{as_shown, gone_files, shown, NamedFile}
use Rattle.oci_prune_answer.specs.declared.prune_answer.RemovedFile.{RemovedFile}
use Rattle.oci_prune_answer.proofs.Naming.{both_added, IsSortedByKey-from_sort_by}
use Rattle.oci_prune_answer.proofs.prune_answer.PruneAnswer.of.Goals as goal

pub returns-clause-shown : goal.returns-clause-shown
returns-clause-shown c =
    let all : List NamedFile = gone_files c.args.plan c.args.pruned.now in
    let sorted : List RemovedFile = c.sort_by.new.self.items in
    let added : shown c.add_drafts.new.gone.items ≡ all = both_added _ _ _ _ _ _ _ _ _ _ c.new-gone.ensures.items c.deref.ensures.value c.deref-2.ensures.value c.deref-3.ensures.value c.in_ok-add_files.ensures c.in_ok-add_drafts.ensures in
    let named : IsPermutation all (shown sorted) = subst (λ fs. IsPermutation fs (shown sorted)) added (IsPermutation-map as_shown c.add_drafts.new.gone.items sorted c.in_ok-sort_by.ensures.permutation) in
    let total : sum_by (λ (f : NamedFile). f.length) (shown c.deref-4.result.now) ≡ sum_by (λ (f : NamedFile). f.length) all =
    ap (λ fs. sum_by (λ (f : NamedFile). f.length) (shown fs)) c.deref-4.ensures.value ∙ sum_by-IsPermutation (λ (f : NamedFile). f.length) all (shown sorted) named in
    record {
      saved = search rules;
      unsaved = search rules;
      all = search rules;
      files = record {
        named = named;
        sorted = IsSortedByKey-from_sort_by (λ (f : RemovedFile). string_bytes f.path) nat_list_cmp_total sorted c.in_ok-sort_by.ensures.sorted (λ a r f' k. search rules);
        bytes = c.sum_of_lengths.ensures ∙ ap (λ n. min n (2 ^ 128 - 1)) total;
      };
    }
