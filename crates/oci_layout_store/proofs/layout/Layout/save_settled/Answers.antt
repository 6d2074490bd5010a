use Rattle.std.proofs.Common.{drop, inl, refl}
use Rattle.oci_layout_store.specs.Index.{index_file}
use Rattle.oci_layout_store.specs.Layout.{OpenedIndex}
use Rattle.oci_layout_store.specs.Settled.{IsSaved}
use Rattle.oci_layout_store.proofs.Files.{HasFiles-put, HasIndex-put}
use Rattle.oci_layout_store.proofs.Lasting.{IsLayout-saved, IsToSave, OnlyFiles-saved, lasting_is_left, left_layout, saved_lasts}
use Rattle.oci_layout_store.proofs.Settled.{touches_whole}
use Rattle.oci_layout_store.proofs.layout.Layout.save_settled.Goals as goal

pub invariant_of-self : goal.invariant_of-self
invariant_of-self g c =
    let s = c.self.inside in
    (IsLayout-saved (g.D.Dir.device s.dir) (g.D.Dir.device c.put_settled.new.dir) s.graph s.tags _ _ _ c.put_settled.ensures c.self.invariant.0, tt)

pub invariant_of-self-2 : goal.invariant_of-self-2
invariant_of-self-2 g c =
    let s = c.self.inside in
    (IsLayout-saved (g.D.Dir.device s.dir) (g.D.Dir.device c.put_settled.new.dir) s.graph s.tags _ _ _ c.put_settled.ensures c.self.invariant.0, tt)

pub returns-in_err-text-clause-left : goal.returns-in_err-text-clause-left
returns-in_err-text-clause-left g c = λ sound closed entries tags lasts known left may. inl (lasting_is_left _ entries tags lasts left may)

pub returns-in-Ok-clause-left : goal.returns-in-Ok-clause-left
returns-in-Ok-clause-left g c =
    let s = c.self.inside in
    let old = g.D.Dir.device s.dir in
    let new = g.D.Dir.device c.put_settled.new.dir in
    let bytes = c.in_ok-text.text.items in
    let opened : OpenedIndex = record { absent = s.absent.items; damaged = s.damaged.items; content = s.content } in
    let text = rw c.deref.ensures.value at c.in_ok-text.ensures in
    let saved : IsSaved old new (drop c.args.from s.graph) bytes c.put_settled.result = rw c.deref-2.ensures.value at c.put_settled.ensures in
    let to_save : IsToSave old s.graph s.tags opened text.0 bytes = record { are_keys = c.len.ensures.keys; is = c.self.invariant.0; are_loose = text.1; is_index = text.2 } in
    rw (← c.self.view_is) (left_layout old new s.graph s.tags opened text.0 c.args.from bytes c.put_settled.result to_save saved)

pub returns-clause-left : goal.returns-clause-left
returns-clause-left g c =
    let s = c.self.inside in
    let old = g.D.Dir.device s.dir in
    let new = g.D.Dir.device c.put_settled.new.dir in
    let bytes = c.in_ok-text.text.items in
    let opened : OpenedIndex = record { absent = s.absent.items; damaged = s.damaged.items; content = s.content } in
    let text = rw c.deref.ensures.value at c.in_ok-text.ensures in
    let saved : IsSaved old new (drop c.args.from s.graph) bytes c.put_settled.result = rw c.deref-2.ensures.value at c.put_settled.ensures in
    let to_save : IsToSave old s.graph s.tags opened text.0 bytes = record { are_keys = c.len.ensures.keys; is = c.self.invariant.0; are_loose = text.1; is_index = text.2 } in
    rw (← c.self.view_is) (left_layout old new s.graph s.tags opened text.0 c.args.from bytes c.put_settled.result to_save saved)

pub returns-in-Ok-clause-lasts : goal.returns-in-Ok-clause-lasts
returns-in-Ok-clause-lasts g c =
    let s = c.self.inside in
    let old = g.D.Dir.device s.dir in
    let new = g.D.Dir.device c.put_settled.new.dir in
    let bytes = c.in_ok-text.text.items in
    let opened : OpenedIndex = record { absent = s.absent.items; damaged = s.damaged.items; content = s.content } in
    let text = rw c.deref.ensures.value at c.in_ok-text.ensures in
    let to_save : IsToSave old s.graph s.tags opened text.0 bytes = record { are_keys = c.len.ensures.keys; is = c.self.invariant.0; are_loose = text.1; is_index = text.2 } in
    rw (← c.self.view_is) (saved_lasts old new s.graph s.tags opened text.0 c.args.from bytes to_save (rw c.deref-2.ensures.value at c.in-Ok.ensures))

pub returns-in-Ok-clause-saved : goal.returns-in-Ok-clause-saved
returns-in-Ok-clause-saved g c =
    let s = c.self.inside in
    let old = g.D.Dir.device s.dir in
    let new = g.D.Dir.device c.put_settled.new.dir in
    let bytes = c.in_ok-text.text.items in
    let opened : OpenedIndex = record { absent = s.absent.items; damaged = s.damaged.items; content = s.content } in
    let text = rw c.deref.ensures.value at c.in_ok-text.ensures in
    let saved = rw c.deref-2.ensures.value at c.in-Ok.ensures in
    rw (← c.self.view_is) (λ honest. HasIndex-put old.file new.file s.graph s.tags opened text.0 text.1 (bytes, text.2, saved.saved honest))

pub returns-in-Ok-clause-files : goal.returns-in-Ok-clause-files
returns-in-Ok-clause-files g c =
    let s = c.self.inside in
    let old = g.D.Dir.device s.dir in
    let new = g.D.Dir.device c.put_settled.new.dir in
    let bytes = c.in_ok-text.text.items in
    let opened : OpenedIndex = record { absent = s.absent.items; damaged = s.damaged.items; content = s.content } in
    let text = rw c.deref.ensures.value at c.in_ok-text.ensures in
    let saved = rw c.deref-2.ensures.value at c.in-Ok.ensures in
    rw (← c.self.view_is)
    (λ sound. HasFiles-put old.is_honest old.file new.file s.graph s.tags opened text.0 (c.self.invariant.0.has_layout_file sound.is_honest) text.1 (bytes, text.2, saved.saved sound.is_honest)
    (touches_whole old.file new.file index_file bytes (saved.whole sound.is_honest)) sound)

pub returns-in-Ok-clause-only : goal.returns-in-Ok-clause-only
returns-in-Ok-clause-only g c =
    rw (← c.self.view_is) (OnlyFiles-saved g.D.Dir.device _ _ _ _ c.put_settled.result (record { graph = refl; tags = refl; opened = refl }) c.put_settled.ensures)

pub returns-clause-only : goal.returns-clause-only
returns-clause-only g c =
    rw (← c.self.view_is) (OnlyFiles-saved g.D.Dir.device _ _ _ _ c.put_settled.result (record { graph = refl; tags = refl; opened = refl }) c.put_settled.ensures)

pub returns-in-Ok-clause-other : goal.returns-in-Ok-clause-other
returns-in-Ok-clause-other g c =
    rw (← c.self.view_is) (λ honest. touches_whole (g.D.Dir.device c.self.inside.dir).file (g.D.Dir.device c.put_settled.new.dir).file index_file _ (c.put_settled.ensures.whole honest))

pub returns-clause-other : goal.returns-clause-other
returns-clause-other g c =
    rw (← c.self.view_is) (λ honest. touches_whole (g.D.Dir.device c.self.inside.dir).file (g.D.Dir.device c.put_settled.new.dir).file index_file _ (c.put_settled.ensures.whole honest))
