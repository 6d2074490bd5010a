use Rattle.std.proofs.Common.{◌<◌, ◌++◌, ◌≤◌, ◌-◌, length, sym, ◌∙◌, arith}
use Rattle.oci_store.specs.Parts.{IsPart}
use Rattle.oci_store.proofs.Leaves.{IsReading-on}
use Rattle.oci_query_commands.proofs.ForeignLayers.{Unkept, part_is, wrong_end}
use Rattle.oci_query_commands.proofs.foreign.is_wrong_in_parts.Goals as goal

pub loop-part-preserved-else-length-most : goal.loop-part-preserved-else-length-most
loop-part-preserved-else-length-most g c =
    let dir = g.D.Dir.device c.args.dir.now in
    let found = dir.file c.args.path.now in
    let inv = c.loop-part.invariant in
    let m = inv.0 in
    let part = c.in-Some.part in
    let most = c.part_size-most.result in
    let len = c.len-length.ensures.value in
    let le : length part ≤ c.loop-part.left = omega arith in
    let read : dir.is_honest → IsPart found (c.args.key.now.size - c.loop-part.left) most part =
    λ honest. part_is found (c.args.key.now.size - c.loop-part.left) most part (sym c.in-Some.is ∙ (rw c.size.ensures.size at c.in_ok-part.ensures.part).found honest) in
    rw len (
      m ++ part,
      IsReading-on c.loop-part.hasher c.update.new.self Unkept Unkept c.args.key.now dir.is_honest found c.loop-part.left most m part inv.1
          (rw c.as_slice.ensures at c.update.ensures c.args.key.now.digest m inv.1.hashed)
          tt
          le
          read,
    )

pub loop-part-preserved : goal.loop-part-preserved
loop-part-preserved g c =
    let dir = g.D.Dir.device c.args.dir.now in
    let found = dir.file c.args.path.now in
    let inv = c.loop-part.invariant in
    let m = inv.0 in
    let part = c.in-Some.part in
    let most = c.part_size-most.result in
    let len = c.len-length.ensures.value in
    let le : length part ≤ c.loop-part.left = omega arith in
    let read : dir.is_honest → IsPart found (c.args.key.now.size - c.loop-part.left) most part =
    λ honest. part_is found (c.args.key.now.size - c.loop-part.left) most part (sym c.in-Some.is ∙ (rw c.size.ensures.size at c.in_ok-part.ensures.part).found honest) in
    rw len (
      m ++ part,
      IsReading-on c.loop-part.hasher c.update.new.self Unkept Unkept c.args.key.now dir.is_honest found c.loop-part.left most m part inv.1
          (rw c.as_slice.ensures at c.update.ensures c.args.key.now.digest m inv.1.hashed)
          tt
          le
          read,
    )

pub returns : goal.returns
returns g c = λ honest.
    let dir = g.D.Dir.device c.args.dir.now in
    let found = dir.file c.args.path.now in
    let inv = c.loop-part.invariant in
    let m = inv.0 in
    let part = c.in-Some.part in
    let most = c.part_size-most.result in
    let len = c.len-length.ensures.value in
    let le : length part ≤ c.loop-part.left = omega arith in
    let short : length part < most = omega arith in
    let hashed = rw c.as_slice.ensures at c.update.ensures c.args.key.now.digest m inv.1.hashed in
    let read : dir.is_honest → IsPart found (c.args.key.now.size - c.loop-part.left) most part =
    λ honest. part_is found (c.args.key.now.size - c.loop-part.left) most part (sym c.in-Some.is ∙ (rw c.size.ensures.size at c.in_ok-part.ensures.part).found honest) in
    wrong_end c.args.key.now dir.is_honest found c.loop-part.hasher c.loop-part.left most m part c.is_whole.result inv.1 read le short
    (rw len at c.is_whole.ensures c.args.key.now.digest (m ++ part) hashed) honest
