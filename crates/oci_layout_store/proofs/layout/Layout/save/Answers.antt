use Rattle.std.proofs.Common.{refl}
use Rattle.oci_layout_store.specs.Index.{index_file}
use Rattle.oci_layout_store.proofs.Files.{IsLayout-put, OnlyFiles-index, index_layout, HasFiles-put, HasIndex-put}
use Rattle.oci_layout_store.proofs.layout.Layout.save.Goals as goal

pub invariant_of-self : goal.invariant_of-self
unfolding index_file
invariant_of-self g c =
    let s = c.self.inside in
    (IsLayout-put (g.D.Dir.device s.dir) (g.D.Dir.device c.put.new.self) s.graph s.tags index_file _ _ index_layout c.put.ensures.put c.self.invariant.0, tt)

pub invariant_of-self-2 : goal.invariant_of-self-2
unfolding index_file
invariant_of-self-2 g c =
    let s = c.self.inside in
    (IsLayout-put (g.D.Dir.device s.dir) (g.D.Dir.device c.put.new.self) s.graph s.tags index_file _ _ index_layout c.put.ensures.put c.self.invariant.0, tt)

pub returns-in-Ok-clause-saved : goal.returns-in-Ok-clause-saved
unfolding index_file
returns-in-Ok-clause-saved g c =
    let s = c.self.inside in
    let old = g.D.Dir.device s.dir in
    let new = g.D.Dir.device c.put.new.self in
    let bytes = c.in_ok-text.text.items in
    let text = rw c.deref.ensures.value at c.in_ok-text.ensures in
    rw (← c.self.view_is) (λ honest. HasIndex-put old.file new.file s.graph s.tags (record { absent = s.absent.items; damaged = s.damaged.items; content = s.content }) text.0 text.1 (bytes, text.2, c.in-Ok.ensures.put.put honest bytes c.deref-2.ensures.value))

pub returns-in-Ok-clause-files : goal.returns-in-Ok-clause-files
unfolding index_file
returns-in-Ok-clause-files g c =
    let s = c.self.inside in
    let old = g.D.Dir.device s.dir in
    let new = g.D.Dir.device c.put.new.self in
    let bytes = c.in_ok-text.text.items in
    let text = rw c.deref.ensures.value at c.in_ok-text.ensures in
    let puts = c.in-Ok.ensures.put.put in
    rw (← c.self.view_is)
    (λ sound. HasFiles-put old.is_honest old.file new.file s.graph s.tags (record { absent = s.absent.items; damaged = s.damaged.items; content = s.content }) text.0 (c.self.invariant.0.has_layout_file sound.is_honest) text.1 (bytes, text.2, puts sound.is_honest bytes c.deref-2.ensures.value) (c.in-Ok.ensures.put.other sound.is_honest) sound)

pub returns-in-Ok-clause-only : goal.returns-in-Ok-clause-only
unfolding index_file
returns-in-Ok-clause-only g c =
    rw (← c.self.view_is) (OnlyFiles-index g.D.Dir.device _ _ _ c.put.result (record { graph = refl; tags = refl; opened = refl }) c.put.ensures.put)

pub returns-clause-only : goal.returns-clause-only
unfolding index_file
returns-clause-only g c =
    rw (← c.self.view_is) (OnlyFiles-index g.D.Dir.device _ _ _ c.put.result (record { graph = refl; tags = refl; opened = refl }) c.put.ensures.put)
