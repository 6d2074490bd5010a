use Rattle.std.proofs.Common.{◌≡◌, ◌<◌, ◌++◌, ◌≤◌, ◌-◌, List, ℕ, Some, length, inr, sym, ◌∙◌, arith}
use Rattle.oci_store.specs.Parts.{IsPart}
use Rattle.oci_store.proofs.Leaves.{IsReading-on, IsDraftOf-end}
use Rattle.oci_repair.proofs.Reading.{not_at_end, part_is}
use Rattle.oci_repair.proofs.blob.copy_parts.Goals as goal

pub loop-part-preserved-else-length-most : goal.loop-part-preserved-else-length-most
loop-part-preserved-else-length-most g c =
    let dir = g.D.Dir.device c.args.dir.now in
    let found = dir.file c.args.path.now in
    let inv = c.loop-part.invariant in
    let m = inv.0 in
    let part = c.in-Some.part in
    let most = c.part_size-most.result in
    let len = c.len-length.ensures.value in
    let le : length part ≤ c.loop-part.left = omega arith in
    let read : dir.is_honest → IsPart found (c.args.key.now.size - c.loop-part.left) most part =
    λ honest. part_is found (c.args.key.now.size - c.loop-part.left) most part (sym c.in-Some.is ∙ (rw c.size.ensures.size at c.in_ok-part.ensures.part).found honest) in
    rw len (
      m ++ part,
      IsReading-on c.loop-part.hasher c.update.new.self (g.W.Drafting.drafted c.loop-part.draft) (g.W.Drafting.drafted c.append.new.self)
          c.args.key.now dir.is_honest found c.loop-part.left most m part inv.1
          (rw c.as_slice.ensures at c.update.ensures c.args.key.now.digest m inv.1.hashed)
          (rw c.as_slice-in-loop-part.ensures at c.in_ok-append.ensures m inv.1.is_drafted)
          le
          read,
    )

pub loop-part-preserved : goal.loop-part-preserved
loop-part-preserved g c =
    let dir = g.D.Dir.device c.args.dir.now in
    let found = dir.file c.args.path.now in
    let inv = c.loop-part.invariant in
    let m = inv.0 in
    let part = c.in-Some.part in
    let most = c.part_size-most.result in
    let len = c.len-length.ensures.value in
    let le : length part ≤ c.loop-part.left = omega arith in
    let read : dir.is_honest → IsPart found (c.args.key.now.size - c.loop-part.left) most part =
    λ honest. part_is found (c.args.key.now.size - c.loop-part.left) most part (sym c.in-Some.is ∙ (rw c.size.ensures.size at c.in_ok-part.ensures.part).found honest) in
    rw len (
      m ++ part,
      IsReading-on c.loop-part.hasher c.update.new.self (g.W.Drafting.drafted c.loop-part.draft) (g.W.Drafting.drafted c.append.new.self)
          c.args.key.now dir.is_honest found c.loop-part.left most m part inv.1
          (rw c.as_slice.ensures at c.update.ensures c.args.key.now.digest m inv.1.hashed)
          (rw c.as_slice-in-loop-part.ensures at c.in_ok-append.ensures m inv.1.is_drafted)
          le
          read,
    )

pub returns-then-left-eq0-clause-matching : goal.returns-then-left-eq0-clause-matching
returns-then-left-eq0-clause-matching g c = λ is.
    let dir = g.D.Dir.device c.args.dir.now in
    let found = dir.file c.args.path.now in
    let inv = c.loop-part.invariant in
    let m = inv.0 in
    let part = c.in-Some.part in
    let most = c.part_size-most.result in
    let len = c.len-length.ensures.value in
    let le : length part ≤ c.loop-part.left = omega arith in
    let short : length part < most = omega arith in
    let none : c.loop-part.left - length part ≡ 0 = omega arith in
    let hashed = rw c.as_slice.ensures at c.update.ensures c.args.key.now.digest m inv.1.hashed in
    let read : dir.is_honest → IsPart found (c.args.key.now.size - c.loop-part.left) most part =
    λ honest. part_is found (c.args.key.now.size - c.loop-part.left) most part (sym c.in-Some.is ∙ (rw c.size.ensures.size at c.in_ok-part.ensures.part).found honest) in
    inr (
      m ++ part,
      IsDraftOf-end c.loop-part.hasher (g.W.Drafting.drafted c.loop-part.draft) (g.W.Drafting.drafted c.append.new.self)
          c.args.key.now dir.is_honest found c.loop-part.left most m part inv.1
          (rw c.as_slice-in-loop-part.ensures at c.in_ok-append.ensures m inv.1.is_drafted)
          le read short none
          ((c.matches.ensures c.args.key.now.digest (m ++ part) hashed).0 is),
    )

pub returns-then-left-eq0-clause-other : goal.returns-then-left-eq0-clause-other
returns-then-left-eq0-clause-other g c = λ is honest.
    let dir = g.D.Dir.device c.args.dir.now in
    let found = dir.file c.args.path.now in
    let inv = c.loop-part.invariant in
    let m = inv.0 in
    let part = c.in-Some.part in
    let most = c.part_size-most.result in
    let len = c.len-length.ensures.value in
    let short : length part < most = omega arith in
    let hashed = rw c.as_slice.ensures at c.update.ensures c.args.key.now.digest m inv.1.hashed in
    let read : dir.is_honest → IsPart found (c.args.key.now.size - c.loop-part.left) most part =
    λ honest. part_is found (c.args.key.now.size - c.loop-part.left) most part (sym c.in-Some.is ∙ (rw c.size.ensures.size at c.in_ok-part.ensures.part).found honest) in
    not_at_end c.args.key.now dir.is_honest found c.loop-part.hasher (g.W.Drafting.drafted c.loop-part.draft) c.loop-part.left most m part inv.1 read short
    (λ none verified. cc ((c.matches.ensures c.args.key.now.digest (m ++ part) hashed).1 verified, is)) honest
