use Rattle.std.proofs.Common.{◌≡◌, List, Result, Ok, sym, ap, subst, ◌∙◌}
use Rattle.std.specs.List.{All, IsDistinct}
use Rattle.std.proofs.lemmas.List.Elements.{All-nil}
use Rattle.oci_manifest.specs.Descriptor.{Descriptor, same_key}
use Rattle.oci_manifest.specs.Fault.{Fault, Fails}
use Rattle.oci_manifest.specs.MediaTypes.{kind_of}
use Rattle.oci_manifest.specs.Reading.{successors_of}
use Rattle.oci_manifest.specs.declared.kind.Kind.TheVariants.{Leaf}
use Rattle.oci_store.specs.Content.{succ_of}
use Rattle.oci_plan.specs.Met.{IsListedUnder}
use Rattle.oci_plan.specs.Walk.{read_refusal}
use Rattle.oci_plan.proofs.Items.{leaf_passed, leaf_lists, read_refused, item_read}
use Rattle.oci_plan.proofs.gathering.successors.fetch_successors.Goals as goal

pub returns-in-Leaf-clause-passed : goal.returns-in-Leaf-clause-passed
returns-in-Leaf-clause-passed g c =
    let leaf : kind_of c.args.key.now.media_type ≡ Leaf = cc in
    leaf_passed _ _ _ _ leaf c.in_ok-check_size_and_presence.ensures.there c.in_ok-check_size_and_presence.ensures.within

pub returns-in-Leaf-clause-lists : goal.returns-in-Leaf-clause-lists
unfolding IsDistinct
returns-in-Leaf-clause-lists g c =
    let leaf : kind_of c.args.key.now.media_type ≡ Leaf = cc in
    record {
      listed = λ _. c.new.ensures.items ∙ leaf_lists (g.A.Store.state c.args.source.now).entries c.args.key.now leaf c.in_ok-check_size_and_presence.ensures.there;
      under = subst (λ (ks : List Descriptor). All (IsListedUnder (g.A.Store.state c.args.source.now).entries c.args.key.now) ks) (sym c.new.ensures.items) (All-nil (IsListedUnder (g.A.Store.state c.args.source.now).entries c.args.key.now));
      distinct = subst (λ (ks : List Descriptor). IsDistinct same_key ks) (sym c.new.ensures.items) tt;
    }

pub returns-in-Ok : goal.returns-in-Ok
returns-in-Ok g c =
    let exact : successors_of _ c.deref.result.now ≡ Ok c.in-Ok.keys.items = c.in-Ok.ensures.exact in
    let reads : succ_of c.args.key.now c.in_ok-bytes-in_default.bytes ≡ Ok c.in-Ok.keys.items = cc in
    let it = item_read (g.A.Store.state c.args.source.now) c.args.limit c.args.key.now c.in_ok-bytes-in_default.bytes c.in-Ok.keys.items
    c.in_ok-check_size_and_presence.ensures.within c.in_ok-check_size_and_presence.ensures.there c.in_ok-bytes-in_default.ensures.matching c.in_ok-bytes-in_default.ensures.own reads in
    record { passed = it.passed; lists = it.listing }

pub returns : goal.returns
returns g c =
    let same : successors_of c.of-kind.result c.deref.result.now ≡ succ_of c.args.key.now c.in_ok-bytes-in_default.bytes = cc in
    let fails = subst (λ (r : Result (List Descriptor) Fault). Fails c.in-Err.fault r) same c.in-Err.ensures.exact in
    let told : c.read_fault.result ≡ read_refusal c.args.key.now c.in-Err.fault = c.read_fault.ensures ∙ ap (λ (k : Descriptor). read_refusal k c.in-Err.fault) c.in_ok-try_clone-in-Err.ensures in
    let it = read_refused (g.A.Store.state c.args.source.now) c.args.limit c.args.key.now c.in_ok-bytes-in_default.bytes c.in-Err.fault
    c.in_ok-check_size_and_presence.ensures.within c.in_ok-check_size_and_presence.ensures.there c.in_ok-bytes-in_default.ensures.matching c.in_ok-bytes-in_default.ensures.own fails in
    record { passed = tt; lists = rw told it }
