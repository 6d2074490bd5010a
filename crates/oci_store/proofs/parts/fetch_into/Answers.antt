use Rattle.std.proofs.Common.{◌≡◌, ◌<◌, [], ◌++◌, ◌≤◌, ◌-◌, length, inr, refl, arith}
use Rattle.oci_store.specs.Keyed.{value_at}
use Rattle.oci_store.proofs.Leaves.{IsReading-on, IsDraftOf-end, matching-end}
use Rattle.oci_store.proofs.parts.fetch_into.Goals as goal
use Rattle.oci_store.proofs.parts.fetch_into.Goals.{then-left-gt0-via-then-left-gt0, then-left-gt0-via-else-left-gt0+then-not-matches}

pub loop-part-init : goal.loop-part-init
loop-part-init g c =
    let size = c.size-left.ensures.size in
    let digest = c.digest.ensures in
    ([], record { hashed = rw digest at c.new-hasher.ensures; is_drafted = c.requires.empty; size = omega arith; begins = λ o bytes is. refl })

pub loop-part-preserved-else-length-most : goal.loop-part-preserved-else-length-most
loop-part-preserved-else-length-most g c =
    let state = g.A.Store.state c.args.source.now in
    let found = value_at state.entries c.args.key.now in
    let inv = c.loop-part.invariant in
    let m = inv.0 in
    let part = c.in_ok-part.part in
    let len = c.len-length.ensures.value in
    let le : length part ≤ c.loop-part.left = omega arith in
    rw len (
      m ++ part,
      IsReading-on c.loop-part.hasher c.update.new.self (g.W.Drafting.drafted c.loop-part.draft) (g.W.Drafting.drafted c.append.new.self)
          c.args.key.now state.is_honest found c.loop-part.left c.part_size-most.result m part inv.1
          (rw c.as_slice.ensures at c.update.ensures c.args.key.now.digest m inv.1.hashed)
          (rw c.as_slice-in-loop-part.ensures at c.in-Ok.ensures m inv.1.is_drafted)
          le
          (rw c.size.ensures.size at c.in_ok-part.ensures.part),
    )

pub loop-part-preserved : goal.loop-part-preserved
loop-part-preserved g c =
    let state = g.A.Store.state c.args.source.now in
    let found = value_at state.entries c.args.key.now in
    let inv = c.loop-part.invariant in
    let m = inv.0 in
    let part = c.in_ok-part.part in
    let len = c.len-length.ensures.value in
    let le : length part ≤ c.loop-part.left = omega arith in
    rw len (
      m ++ part,
      IsReading-on c.loop-part.hasher c.update.new.self (g.W.Drafting.drafted c.loop-part.draft) (g.W.Drafting.drafted c.append.new.self)
          c.args.key.now state.is_honest found c.loop-part.left c.part_size-most.result m part inv.1
          (rw c.as_slice.ensures at c.update.ensures c.args.key.now.digest m inv.1.hashed)
          (rw c.as_slice-in-loop-part.ensures at c.in-Ok.ensures m inv.1.is_drafted)
          le
          (rw c.size.ensures.size at c.in_ok-part.ensures.part),
    )

pub returns-clause-drafted : goal.returns-clause-drafted
returns-clause-drafted g c =
    let state = g.A.Store.state c.args.source.now in
    let found = value_at state.entries c.args.key.now in
    let inv = c.loop-part.invariant in
    let m = inv.0 in
    let part = c.in_ok-part.part in
    let len = c.len-length.ensures.value in
    let le : length part ≤ c.loop-part.left = omega arith in
    let short : length part < c.part_size-most.result = omega arith in
    let none : c.loop-part.left - length part ≡ 0 = omega arith in
    let hashed = rw c.as_slice.ensures at c.update.ensures c.args.key.now.digest m inv.1.hashed in
    inr (
      m ++ part,
      IsDraftOf-end c.loop-part.hasher (g.W.Drafting.drafted c.loop-part.draft) (g.W.Drafting.drafted c.append.new.self)
          c.args.key.now state.is_honest found c.loop-part.left c.part_size-most.result m part inv.1
          (rw c.as_slice-in-loop-part.ensures at c.in-Ok.ensures m inv.1.is_drafted)
          le
          (rw c.size.ensures.size at c.in_ok-part.ensures.part)
          short none
          ((c.matches.ensures c.args.key.now.digest (m ++ part) hashed).0 c.if-not-matches.false),
    )

pub returns-then-left-gt0-clause-good : goal.returns-then-left-gt0-clause-good
returns-then-left-gt0-clause-good g c = λ corrupt sound.
    let state = g.A.Store.state c.args.source.now in
    let found = value_at state.entries c.args.key.now in
    let honest = g.A.Store.trusted c.args.source.now sound in
    let inv = c.loop-part.invariant in
    let m = inv.0 in
    let part = c.in_ok-part.part in
    let len = c.len-length.ensures.value in
    let short : length part < c.part_size-most.result = omega arith in
    let hashed = rw c.as_slice.ensures at c.update.ensures c.args.key.now.digest m inv.1.hashed in
    let whole = matching-end c.loop-part.hasher (g.W.Drafting.drafted c.loop-part.draft) c.args.key.now state.is_honest found
    c.loop-part.left c.part_size-most.result m part inv.1
    (rw c.size.ensures.size at c.in_ok-part.ensures.part honest) short honest (c.in_ok-part.ensures.sound sound) in
    let none = whole.0 in
    elim c.then-left-gt0.branch [
      | then-left-gt0-via-then-left-gt0 w ↦ let more = w.if-left-gt0.true in absurd (omega arith)
      | then-left-gt0-via-else-left-gt0+then-not-matches w ↦ cc ((w.matches.ensures c.args.key.now.digest (m ++ part) hashed).1 whole.1, w.if-not-matches.true)
    ]
