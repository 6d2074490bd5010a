use Rattle.std.proofs.Common.{◌≡◌, ◌++◌, ◌≤◌, ◌<◌, ◌-◌, List, ℕ, None, length, arith}
use Rattle.std.specs.Prelude.{⊤}
use Rattle.std.proofs.lemmas.Result.{err_from_is_err_and}
use Rattle.oci_layout_store.specs.Blobs.{blob_path, stored}
use Rattle.oci_store.specs.Keyed.{value_at}
use Rattle.oci_store.proofs.Leaves.{IsReading-on, IsDraftOf-end}
use Rattle.oci_verify.proofs.Intact.{matching-end, matching-long, matching-read, read_fault}
use Rattle.oci_verify.proofs.file_check.check_parts.Goals as goal
use Rattle.oci_verify.proofs.file_check.check_parts.Goals.{then-left-gt0-via-then-left-gt0, then-left-gt0-via-else-left-gt0+then-not-matches}

abbrev none_drafted : List ℕ → Type 0
none_drafted bytes = ⊤

pub returns-then-length-left-clause-corrupt : goal.returns-then-length-left-clause-corrupt
returns-then-length-left-clause-corrupt g c = λ _.
    let layout = c.args.layout.now in
    let inv = c.loop-part.invariant in
    let size = inv.1.size in
    let len = c.len-length.ensures.value in
    let part = c.in_ok-part.part in
    let long : c.loop-part.left < length part = omega arith in
    let le : c.loop-part.left ≤ c.args.key.now.size = omega arith in
    matching-long (g.D.Dir.device layout.dir) layout.graph c.args.key.now c.loop-part.left c.part_size-most.result part le long
    (rw c.size.ensures.size at c.in_ok-part.ensures.part)

pub loop-part-preserved-else-length-most : goal.loop-part-preserved-else-length-most
loop-part-preserved-else-length-most g c =
    let layout = c.args.layout.now in
    let dir = g.D.Dir.device layout.dir in
    let found = value_at (stored dir.file layout.graph) c.args.key.now in
    let inv = c.loop-part.invariant in
    let m = inv.0 in
    let part = c.in_ok-part.part in
    let len = c.len-length.ensures.value in
    let le : length part ≤ c.loop-part.left = omega arith in
    rw len (
      m ++ part,
      IsReading-on c.loop-part.hasher c.update.new.self none_drafted none_drafted
          c.args.key.now dir.is_honest found c.loop-part.left c.part_size-most.result m part inv.1
          (rw c.as_slice.ensures at c.update.ensures c.args.key.now.digest m inv.1.hashed)
          tt
          le
          (rw c.size.ensures.size at c.in_ok-part.ensures.part),
    )

pub loop-part-preserved : goal.loop-part-preserved
loop-part-preserved g c =
    let layout = c.args.layout.now in
    let dir = g.D.Dir.device layout.dir in
    let found = value_at (stored dir.file layout.graph) c.args.key.now in
    let inv = c.loop-part.invariant in
    let m = inv.0 in
    let part = c.in_ok-part.part in
    let len = c.len-length.ensures.value in
    let le : length part ≤ c.loop-part.left = omega arith in
    rw len (
      m ++ part,
      IsReading-on c.loop-part.hasher c.update.new.self none_drafted none_drafted
          c.args.key.now dir.is_honest found c.loop-part.left c.part_size-most.result m part inv.1
          (rw c.as_slice.ensures at c.update.ensures c.args.key.now.digest m inv.1.hashed)
          tt
          le
          (rw c.size.ensures.size at c.in_ok-part.ensures.part),
    )

pub returns-then-left-gt0-clause-corrupt : goal.returns-then-left-gt0-clause-corrupt
returns-then-left-gt0-clause-corrupt g c = λ _.
    let layout = c.args.layout.now in
    let inv = c.loop-part.invariant in
    let m = inv.0 in
    let part = c.in_ok-part.part in
    let len = c.len-length.ensures.value in
    let short : length part < c.part_size-most.result = omega arith in
    let hashed = rw c.as_slice.ensures at c.update.ensures c.args.key.now.digest m inv.1.hashed in
    matching-end (g.D.Dir.device layout.dir) layout.graph c.args.key.now c.loop-part.hasher none_drafted c.loop-part.left c.part_size-most.result m part inv.1
    (rw c.size.ensures.size at c.in_ok-part.ensures.part) short
    (λ none verified. elim c.then-left-gt0.branch [
      | then-left-gt0-via-then-left-gt0 w ↦ let more = w.if-left-gt0.true in absurd (omega (arith, none, more, len))
      | then-left-gt0-via-else-left-gt0+then-not-matches w ↦ cc ((w.matches.ensures c.args.key.now.digest (m ++ part) hashed).1 verified, w.if-not-matches.true)
    ])

pub returns-clause-right : goal.returns-clause-right
returns-clause-right g c =
    let layout = c.args.layout.now in
    let dir = g.D.Dir.device layout.dir in
    let found = value_at (stored dir.file layout.graph) c.args.key.now in
    let inv = c.loop-part.invariant in
    let m = inv.0 in
    let part = c.in_ok-part.part in
    let len = c.len-length.ensures.value in
    let le : length part ≤ c.loop-part.left = omega arith in
    let short : length part < c.part_size-most.result = omega arith in
    let none : c.loop-part.left - length part ≡ 0 = omega arith in
    let hashed = rw c.as_slice.ensures at c.update.ensures c.args.key.now.digest m inv.1.hashed in
    let whole = IsDraftOf-end c.loop-part.hasher none_drafted none_drafted
    c.args.key.now dir.is_honest found c.loop-part.left c.part_size-most.result m part inv.1
    tt
    le
    (rw c.size.ensures.size at c.in_ok-part.ensures.part)
    short none
    ((c.matches.ensures c.args.key.now.digest (m ++ part) hashed).0 c.if-not-matches.false) in
    matching-read dir layout.graph c.args.key.now (m ++ part) whole.matching whole.own

pub returns-in_err-part-clause-cause : goal.returns-in_err-part-clause-cause
returns-in_err-part-clause-cause g c =
    let p = err_from_is_err_and c.from_residual.result c.from_residual.ensures.1 in
    let dir = g.D.Dir.device c.args.layout.now.dir in
    rw (p.1, p.2) (read_fault dir c.args.layout.now.graph c.args.key.now (dir.file (blob_path c.args.key.now.digest) ≡ None) c.in_err-part.field-0.0 c.in_err-part.ensures.cause)
