use Rattle.std.proofs.Common.{◌<◌, length, true, vec_capacity, arith}
use Rattle.std.proofs.lemmas.List.{length-set}
use Rattle.oci_pool.proofs.Marks.{IsListed-push, room_for}
use Rattle.oci_pool.proofs.board.issuing.issue_one.Goals as goal

pub push_reserved-requires : goal.push_reserved-requires
push_reserved-requires c =
    let room : length c.args.issue.now.items < length c.args.issued.now.items =
    room_for c.args.issue.now.items (length c.args.issued.now.items) c.args.number c.requires.listed.once c.requires.listed.numbers c.requires.unissued.fresh c.requires.unissued.number in
    omega (arith, room, c.requires.listed.room, c.args.issue.now.ok.0)

pub returns : goal.returns
returns c = record {
  issue_is = c.push_reserved.ensures.items;
  listed = rw (c.push_reserved.ensures.items, c.push_reserved.ensures.capacity) (IsListed-push c.args.issue.now.items (vec_capacity c.args.issue.now) c.args.issued.now.items c.args.number c.requires.listed c.requires.unissued.fresh c.requires.unissued.number);
  len = length-set c.args.issued.now.items c.args.number true;
}
