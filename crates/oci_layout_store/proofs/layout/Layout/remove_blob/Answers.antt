use Rattle.std.proofs.Common.{◌≢◌, refl}
use Rattle.std.specs.Map.{keys_of}
use Rattle.std.proofs.lemmas.List.Elements.{All-contains}
use Rattle.oci_manifest.specs.Descriptor.{Descriptor}
use Rattle.oci_store.proofs.Lookups.{Contains-from_has_key}
use Rattle.oci_layout_store.specs.Blobs.{blob_path}
use Rattle.oci_dir.specs.Prunable.{IsRemoval}
use Rattle.oci_layout_store.proofs.Crash.{KeepsSettled-removed, Lasts-removed}
use Rattle.oci_layout_store.proofs.Files.{blob_layout}
use Rattle.oci_layout_store.proofs.Prunable.{OnlyFile-removed, apart-unheld, IsLayout-removed}
use Rattle.oci_layout_store.proofs.layout.Layout.remove_blob.Goals as goal

pub invariant_of-self : goal.invariant_of-self
invariant_of-self g c =
    let s = c.self.inside in
    let path = blob_path c.args.digest.now in
    let old = g.D.Dir.device s.dir in
    let new = g.D.Dir.device c.remove.new.self in
    let removal : IsRemoval old new path c.remove.result = rw (c.deref.ensures, c.in_ok-path.ensures) at c.remove.ensures in
    (IsLayout-removed old new s.graph s.tags path c.remove.result (blob_layout c.args.digest.now) removal c.self.invariant.0, tt)

pub returns-in-Ok-clause-held : goal.returns-in-Ok-clause-held
returns-in-Ok-clause-held g c =
    let graph = c.self.inside.graph in
    let unheld = c.is_held.ensures.held.0 c.if-is_held.false in
    rw (← c.self.view_is)
    (λ k held same. absurd (All-contains (λ (k : Descriptor). k.digest ≢ c.args.digest.now) (keys_of graph) k unheld (Contains-from_has_key graph k held) same))

pub returns-clause-held : goal.returns-clause-held
returns-clause-held g c =
    let graph = c.self.inside.graph in
    let unheld = c.is_held.ensures.held.0 c.if-is_held.false in
    rw (← c.self.view_is)
    (λ k held same. absurd (All-contains (λ (k : Descriptor). k.digest ≢ c.args.digest.now) (keys_of graph) k unheld (Contains-from_has_key graph k held) same))

pub returns-in-Ok-clause-only : goal.returns-in-Ok-clause-only
returns-in-Ok-clause-only g c =
    let s = c.self.inside in
    let removal : IsRemoval (g.D.Dir.device s.dir) (g.D.Dir.device c.remove.new.self) (blob_path c.args.digest.now) c.remove.result = rw (c.deref.ensures, c.in_ok-path.ensures) at c.remove.ensures in
    let apart = apart-unheld c.args.digest.now s.graph c.is_held.ensures.digest c.is_held.ensures.keys (c.is_held.ensures.held.0 c.if-is_held.false) in
    rw (← c.self.view_is) (OnlyFile-removed g.D.Dir.device _ _ (blob_path c.args.digest.now) c.remove.result (record { graph = refl; tags = refl; opened = refl }) apart removal)

pub returns-clause-only : goal.returns-clause-only
returns-clause-only g c =
    let s = c.self.inside in
    let removal : IsRemoval (g.D.Dir.device s.dir) (g.D.Dir.device c.remove.new.self) (blob_path c.args.digest.now) c.remove.result = rw (c.deref.ensures, c.in_ok-path.ensures) at c.remove.ensures in
    let apart = apart-unheld c.args.digest.now s.graph c.is_held.ensures.digest c.is_held.ensures.keys (c.is_held.ensures.held.0 c.if-is_held.false) in
    rw (← c.self.view_is) (OnlyFile-removed g.D.Dir.device _ _ (blob_path c.args.digest.now) c.remove.result (record { graph = refl; tags = refl; opened = refl }) apart removal)

pub returns-in-Ok-clause-lasts : goal.returns-in-Ok-clause-lasts
returns-in-Ok-clause-lasts g c =
    let s = c.self.inside in
    let old = g.D.Dir.device s.dir in
    let new = g.D.Dir.device c.remove.new.self in
    let removal : IsRemoval old new (blob_path c.args.digest.now) c.remove.result = rw (c.deref.ensures, c.in_ok-path.ensures) at c.remove.ensures in
    rw (← c.self.view_is) (λ entries tags. Lasts-removed old new entries tags c.args.digest.now c.remove.result c.is_held.ensures.digest removal)

pub returns-clause-lasts : goal.returns-clause-lasts
returns-clause-lasts g c =
    let s = c.self.inside in
    let old = g.D.Dir.device s.dir in
    let new = g.D.Dir.device c.remove.new.self in
    let removal : IsRemoval old new (blob_path c.args.digest.now) c.remove.result = rw (c.deref.ensures, c.in_ok-path.ensures) at c.remove.ensures in
    rw (← c.self.view_is) (λ entries tags. Lasts-removed old new entries tags c.args.digest.now c.remove.result c.is_held.ensures.digest removal)

pub returns-in-Ok-clause-settled : goal.returns-in-Ok-clause-settled
returns-in-Ok-clause-settled g c =
    let s = c.self.inside in
    let old = g.D.Dir.device s.dir in
    let new = g.D.Dir.device c.remove.new.self in
    let removal : IsRemoval old new (blob_path c.args.digest.now) c.remove.result = rw (c.deref.ensures, c.in_ok-path.ensures) at c.remove.ensures in
    rw (← c.self.view_is) (KeepsSettled-removed old new s.graph c.args.digest.now c.remove.result c.is_held.ensures.digest c.is_held.ensures.keys (c.is_held.ensures.held.0 c.if-is_held.false) removal)

pub returns-clause-settled : goal.returns-clause-settled
returns-clause-settled g c =
    let s = c.self.inside in
    let old = g.D.Dir.device s.dir in
    let new = g.D.Dir.device c.remove.new.self in
    let removal : IsRemoval old new (blob_path c.args.digest.now) c.remove.result = rw (c.deref.ensures, c.in_ok-path.ensures) at c.remove.ensures in
    rw (← c.self.view_is) (KeepsSettled-removed old new s.graph c.args.digest.now c.remove.result c.is_held.ensures.digest c.is_held.ensures.keys (c.is_held.ensures.held.0 c.if-is_held.false) removal)
