-- What a copy promises, in the words of the entries of stores in memory.
use Rattle.std.proofs.Common.{◌≡◌, ◌+◌, ℕ, List, sym, ap, ◌∙◌}
use Rattle.std.specs.Prelude.{Result, Ok, Err, IfOk, IfErr}
use Rattle.std.proofs.lemmas.List.{length-map}
use Rattle.oci_manifest.specs.Descriptor.{Descriptor}
use Rattle.oci_store.specs.Contents.{Contents}
use Rattle.oci_store.specs.Content.{IsContent}
use Rattle.oci_store.specs.Graph.{node_of, nodes_of}
use Rattle.oci_store.specs.GraphLaws.{keys_of-nodes_of}
use Rattle.oci_store.specs.State.{State, in_memory}
use Rattle.oci_store.proofs.Lookups.{has_key-same_keys}
use Rattle.oci_copy.specs.Copy.{IsCopy, OnlyGrows}
use Rattle.oci_copy.specs.Fault.{IsEarly}
use Rattle.oci_copy.specs.Memory.{IsMemoryCopy, OnlyGrowsInMemory}
use Rattle.oci_copy.specs.declared.options.Options.{Options}
use Rattle.oci_copy.specs.declared.fault.CopyFault.{CopyFault}
use Rattle.oci_copy.specs.declared.report.Report.{Report}
use Rattle.oci_copy.proofs.Headline.{Agree-nodes_of}
use Rattle.oci_copy.proofs.Unfailing.{known_in_memory}

-- the state of a store in memory
abbrev pub state : Contents → State
state c = in_memory c.entries c.tags

-- a copy between them that succeeded
is_copy : (options : Options) (source opening now : Contents) (roots : List Descriptor) (report : Report) → IsCopy ⊥ options (state source) (state opening) roots (state now) report
    → IsMemoryCopy options.existing source roots opening now report
is_copy options source opening now roots report copy = record {
  copied = copy.content (known_in_memory source opening now);
  reached = λ agree k there. has_key-same_keys (nodes_of now.entries) now.entries k (keys_of-nodes_of now.entries) (copy.reached tt (Agree-nodes_of source.entries opening.entries agree) k there);
  planned = copy.reported.planned tt;
  pushed = copy.reported.pushed;
  gained = sym (length-map now.entries node_of) ∙ copy.reported.gained ∙ ap (λ (n : ℕ). n + report.pushed) (length-map opening.entries node_of);
  skipped = copy.reported.skipped;
}

pub copied : (options : Options) (source opening now : Contents) (roots : List Descriptor) (result : Result Report CopyFault)
    → IfOk result (IsCopy ⊥ options (state source) (state opening) roots (state now))
    → IfOk result (IsMemoryCopy options.existing source roots opening now)
copied options source opening now roots (Ok report) copy = is_copy options source opening now roots report copy
copied options source opening now roots (Err fault) copy = tt

-- what it gained, also after a refusal
pub grows : (source opening now : Contents) (roots : List Descriptor) (result : Result Report CopyFault) → OnlyGrows ⊥ (state source) (state opening) roots (state now)
    → IsContent now.entries → now.tags ≡ opening.tags → IfErr result (λ fault. IsEarly fault → now ≡ opening) → OnlyGrowsInMemory source roots opening now result
grows source opening now roots result growth content tags unchanged =
    let grown = growth.grown_content (known_in_memory source opening now) in
    record {
      begins = (grown.0, grown.1);
      grown = grown;
      content = content;
      whole = growth.whole;
      closed = growth.closed;
      tags = tags;
      unchanged = unchanged;
    }
