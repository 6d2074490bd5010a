-- A layout may be sent to another thread, or shared with one, if its directory may. A caller cites
-- this, because a `Value` holds itself, and the search for its members gives up in a function with
-- many type parameters.
use denote.RattleType.{RattleType}
use denote.Param.Send.{IsSend, IsSync, sendable, view_send, view_sync, recorded_send, recorded_sync, struct_send, struct_sync}
use denote.Struct.Declared.{shape}
use Rattle.std.proofs.Crossing as values
use Rattle.std.proofs.MapsCrossing as maps
use Rattle.std.proofs.alloc.Global.TheSendSync as heap
use Rattle.serde_json.proofs.value.Value.TheLaws.TheKnot as knot
use Rattle.oci_manifest.proofs.key.Key.TheSendSync as key
use Rattle.oci_store.proofs.graph.Graph.TheSendSync as graph
use Rattle.oci_store.proofs.tags.Tags.TheSendSync as tags
use Rattle.oci_layout_store.specs.contracts.index.IndexContent as content
use Rattle.oci_layout_store.specs.contracts.layout.Layout as layout
use Rattle.oci_layout_store.specs.contracts.layout.Layout.TheInside as inside
use Rattle.oci_dir.specs.declared.dir.Dir as dir
use Rattle.oci_store.specs.declared.draft.Drafting as drafting

content_send : IsSend content.the_row
content_send = search (key.the_send, maps.crosses, values.crosses, knot.crosses, sendable) depth 60 fits 20000

content_sync : IsSync content.the_row
content_sync = search (key.the_sync, maps.crosses, values.crosses, knot.crosses, sendable) depth 60 fits 20000

module _ (D W : RattleType) (d : dir.Ghosts D.Denot W.Denot) (w : drafting.Ghosts W.Denot) where
  pub layout_send : IsSend D → IsSend (layout.the_row D W d w)
  layout_send s = view_send (inside.the_row D W d w) _ _ _ _ (recorded_send (inside.the_field D W d w).row _ _ (inside.the_type D W d w).to_one (struct_send (shape (inside.the_type D W d w))
      (heap.the_field_send, (s, (graph.the_send, (search (key.the_send, values.crosses, sendable) depth 60 fits 20000, (tags.the_send, (search (key.the_send, values.crosses), (search (key.the_send, values.crosses), (content_send, tt))))))))))

  pub layout_sync : IsSync D → IsSync (layout.the_row D W d w)
  layout_sync s = view_sync (inside.the_row D W d w) _ _ _ _ (recorded_sync (inside.the_field D W d w).row _ _ (inside.the_type D W d w).to_one (struct_sync (shape (inside.the_type D W d w))
      (heap.the_field_sync, (s, (graph.the_sync, (search (key.the_sync, values.crosses, sendable) depth 60 fits 20000, (tags.the_sync, (search (key.the_sync, values.crosses), (search (key.the_sync, values.crosses), (content_sync, tt))))))))))
