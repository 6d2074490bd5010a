use Rattle.std.proofs.Common.{◌≡◌, [], ◌++◌, ◌≤◌, ◌<◌, ◌-◌, None, length, refl, arith}
use Rattle.std.specs.Io.KnownBytes.{Appends}
use Rattle.std.proofs.lemmas.Result.{err_from_is_err_and}
use Rattle.oci_layout_store.specs.Blobs.{blob_path, stored}
use Rattle.oci_store.specs.Keyed.{value_at}
use Rattle.oci_store.proofs.Leaves.{IsReading-on, IsDraftOf-end}
use Rattle.oci_verify.proofs.Intact.{matching-end, matching-long}
use Rattle.oci_query_commands.proofs.Written.{Appends-both, Appends-none, IsBlobFault-read, IsNotOf-checked, IsNotOf-none, IsWriteFault-output}
use Rattle.oci_query_commands.proofs.cat.write_parts.Goals as goal

pub loop-part-init : goal.loop-part-init
loop-part-init g c =
    let size = c.size-left.ensures.size in
    let digest = c.digest.ensures in
    ([], record { hashed = rw digest at c.new-hasher.ensures; is_drafted = Appends-none (g.W.Write.contents c.args.out.now); size = omega arith; begins = λ o bytes is. refl })

pub fault_of-requires : goal.fault_of-requires
fault_of-requires g c =
    let layout = c.args.layout.now in
    let dir = g.D.Dir.device layout.dir in
    let k = c.args.key.now in
    IsBlobFault-read dir layout.graph k (dir.file (blob_path k.digest) ≡ None) c.in-Err.fault (IsNotOf-none k (dir.file (blob_path k.digest))) c.in-Err.ensures.cause

-- a file that is longer than the key's size
pub fault_of-requires-then-length-left : goal.fault_of-requires-then-length-left
fault_of-requires-then-length-left g c =
    let layout = c.args.layout.now in
    let dir = g.D.Dir.device layout.dir in
    let inv = c.loop-part.invariant in
    let size = inv.1.size in
    let len = c.len-length.ensures.value in
    let part = c.in-Ok.part in
    let long : c.loop-part.left < length part = omega arith in
    let le : c.loop-part.left ≤ c.args.key.now.size = omega arith in
    IsNotOf-checked dir c.args.key.now (matching-long dir layout.graph c.args.key.now c.loop-part.left c.part_size-most.result part le long (rw c.size.ensures.size at c.in-Ok.ensures.part))

pub returns-in_err-write_bytes-clause-refused : goal.returns-in_err-write_bytes-clause-refused
returns-in_err-write_bytes-clause-refused g c =
    let p = err_from_is_err_and c.from_residual.result c.from_residual.ensures.1 in
    let layout = c.args.layout.now in
    rw (p.1, p.2) (IsWriteFault-output (g.D.Dir.device layout.dir) layout.graph c.args.key.now c.in_err-write_bytes.field-0.0 c.in_err-write_bytes.ensures.refused)

pub loop-part-preserved : goal.loop-part-preserved
loop-part-preserved g c =
    let layout = c.args.layout.now in
    let dir = g.D.Dir.device layout.dir in
    let contents = g.W.Write.contents in
    let found = value_at (stored dir.file layout.graph) c.args.key.now in
    let inv = c.loop-part.invariant in
    let m = inv.0 in
    let part = c.in-Ok.part in
    let len = c.len-length.ensures.value in
    let le : length part ≤ c.loop-part.left = omega arith in
    rw len (
      m ++ part,
      IsReading-on c.loop-part.hasher c.update.new.self (Appends (contents c.args.out.now) (contents c.loop-part.out)) (Appends (contents c.args.out.now) (contents c.write_bytes.new.out))
          c.args.key.now dir.is_honest found c.loop-part.left c.part_size-most.result m part inv.1
          (rw c.as_slice.ensures at c.update.ensures c.args.key.now.digest m inv.1.hashed)
          (Appends-both _ _ _ m part inv.1.is_drafted (rw c.as_slice-in-loop-part.ensures at c.in_ok-write_bytes.ensures.written))
          le
          (rw c.size.ensures.size at c.in-Ok.ensures.part),
    )

pub loop-part-preserved-else-length-most : goal.loop-part-preserved-else-length-most
loop-part-preserved-else-length-most g c =
    let layout = c.args.layout.now in
    let dir = g.D.Dir.device layout.dir in
    let contents = g.W.Write.contents in
    let found = value_at (stored dir.file layout.graph) c.args.key.now in
    let inv = c.loop-part.invariant in
    let m = inv.0 in
    let part = c.in-Ok.part in
    let len = c.len-length.ensures.value in
    let le : length part ≤ c.loop-part.left = omega arith in
    rw len (
      m ++ part,
      IsReading-on c.loop-part.hasher c.update.new.self (Appends (contents c.args.out.now) (contents c.loop-part.out)) (Appends (contents c.args.out.now) (contents c.write_bytes.new.out))
          c.args.key.now dir.is_honest found c.loop-part.left c.part_size-most.result m part inv.1
          (rw c.as_slice.ensures at c.update.ensures c.args.key.now.digest m inv.1.hashed)
          (Appends-both _ _ _ m part inv.1.is_drafted (rw c.as_slice-in-loop-part.ensures at c.in_ok-write_bytes.ensures.written))
          le
          (rw c.size.ensures.size at c.in-Ok.ensures.part),
    )

-- a file that is shorter than the key's size, or has other bytes
pub fault_of-requires-then-not-is_whole : goal.fault_of-requires-then-not-is_whole
fault_of-requires-then-not-is_whole g c =
    let layout = c.args.layout.now in
    let dir = g.D.Dir.device layout.dir in
    let contents = g.W.Write.contents in
    let inv = c.loop-part.invariant in
    let m = inv.0 in
    let part = c.in-Ok.part in
    let len = c.len-length.ensures.value in
    let short : length part < c.part_size-most.result = omega arith in
    let hashed = rw c.as_slice.ensures at c.update.ensures c.args.key.now.digest m inv.1.hashed in
    IsNotOf-checked dir c.args.key.now
    (matching-end dir layout.graph c.args.key.now c.loop-part.hasher (Appends (contents c.args.out.now) (contents c.loop-part.out)) c.loop-part.left c.part_size-most.result m part inv.1
    (rw c.size.ensures.size at c.in-Ok.ensures.part) short
    (λ none verified. cc ((c.is_whole.ensures c.args.key.now.digest (m ++ part) hashed).1 (omega (arith, none, len), verified), c.if-not-is_whole.true)))

pub returns-clause-written : goal.returns-clause-written
returns-clause-written g c =
    let layout = c.args.layout.now in
    let dir = g.D.Dir.device layout.dir in
    let contents = g.W.Write.contents in
    let found = value_at (stored dir.file layout.graph) c.args.key.now in
    let inv = c.loop-part.invariant in
    let m = inv.0 in
    let part = c.in-Ok.part in
    let len = c.len-length.ensures.value in
    let le : length part ≤ c.loop-part.left = omega arith in
    let short : length part < c.part_size-most.result = omega arith in
    let hashed = rw c.as_slice.ensures at c.update.ensures c.args.key.now.digest m inv.1.hashed in
    let right = (c.is_whole.ensures c.args.key.now.digest (m ++ part) hashed).0 c.if-not-is_whole.false in
    let read = right.0 in
    let none : c.loop-part.left - length part ≡ 0 = omega (arith, read, len) in
    let whole = IsDraftOf-end c.loop-part.hasher (Appends (contents c.args.out.now) (contents c.loop-part.out)) (Appends (contents c.args.out.now) (contents c.write_bytes.new.out))
    c.args.key.now dir.is_honest found c.loop-part.left c.part_size-most.result m part inv.1
    (Appends-both _ _ _ m part inv.1.is_drafted (rw c.as_slice-in-loop-part.ensures at c.in_ok-write_bytes.ensures.written))
    le
    (rw c.size.ensures.size at c.in-Ok.ensures.part)
    short none right.1 in
    (m ++ part, whole.matching, whole.is_drafted)
