-- What the check of a push finds for bytes that match, under a key that is not held.
use Rattle.std.proofs.Common.{◌≡◌, ℕ, true, false, List, Option, Some, None, Result, Ok, Err, refl, sym, ap, ◌∙◌, eq-eqb}
use Rattle.std.specs.Prelude.{◌==◌, length}
use Rattle.oci_digest.specs.Digest.{verifies}
use Rattle.oci_digest.proofs.DigestLemmas.{Decides-verifies}
use Rattle.oci_manifest.specs.Descriptor.{Descriptor}
use Rattle.oci_manifest.specs.Fault.{Fault}
use Rattle.oci_store.specs.Keyed.{has_key, HasAll, first_missing}
use Rattle.oci_store.specs.Content.{Matches, IsChecked, succ_of, successors_in}
use Rattle.oci_store.specs.Graph.{Node}
use Rattle.oci_store.specs.Push.{push_check, content_check, closed_check, read_check, held_check, successors_check}
use Rattle.oci_store.proofs.Lookups.{HasAll-from_first_missing}

-- bytes that match pass the checks of size and digest
pub push_check-matching : (graph : List Node) (k : Descriptor) (bytes : List ℕ) → has_key graph k ≡ false → Matches k bytes → push_check graph k bytes ≡ read_check (succ_of k bytes)
unfolding push_check content_check
push_check-matching graph k bytes fresh matching =
    let size : (length bytes == k.size) ≡ true = eq-eqb (length bytes) k.size matching.0 in
    let digest : verifies k.digest bytes ≡ true = (Decides-verifies k.digest bytes).1 matching.1 in
    rw (fresh, size, digest) refl

pub closed_check-matching : (graph : List Node) (k : Descriptor) (bytes : List ℕ) → has_key graph k ≡ false → Matches k bytes
    → closed_check graph k bytes ≡ successors_check graph (read_check (succ_of k bytes))
unfolding closed_check
closed_check-matching graph k bytes fresh matching = ap (successors_check graph) (push_check-matching graph k bytes fresh matching)

-- the check of content that matches and reads is whether all that it lists is held
pub closed_check-read : (graph : List Node) (k : Descriptor) (bytes : List ℕ) (listed : List Descriptor) → has_key graph k ≡ false → IsChecked k bytes listed
    → closed_check graph k bytes ≡ held_check listed (first_missing graph listed)
closed_check-read graph k bytes listed fresh checked =
    closed_check-matching graph k bytes fresh checked.matching ∙ ap (λ (r : Result (List Descriptor) Fault). successors_check graph (read_check r)) checked.reads

-- what passes the check lists keys that are held
pub held-from_check : (graph : List Node) (k : Descriptor) (bytes : List ℕ) (listed : List Descriptor) → has_key graph k ≡ false → Matches k bytes
    → closed_check graph k bytes ≡ Ok listed → HasAll graph (successors_in k bytes)
held-from_check graph k bytes listed fresh matching passed =
    from_read (succ_of k bytes) refl (sym (closed_check-matching graph k bytes fresh matching) ∙ passed)
  where
    from_missing : (ks : List Descriptor) (o : Option Descriptor) → first_missing graph ks ≡ o → held_check ks o ≡ Ok listed → HasAll graph ks
    from_missing ks None none e = HasAll-from_first_missing graph ks none
    from_missing ks (Some m) some e = cc e

    from_read : (r : Result (List Descriptor) Fault) → succ_of k bytes ≡ r → successors_check graph (read_check r) ≡ Ok listed → HasAll graph (successors_in k bytes)
    from_read (Ok ks) is e = rw is (from_missing ks (first_missing graph ks) refl e)
    from_read (Err f) is e = cc e
