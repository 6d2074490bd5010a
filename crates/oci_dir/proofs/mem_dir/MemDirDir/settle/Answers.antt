use Rattle.std.proofs.Common.{◌+◌, ◌≡◌, ◌∷◌, [], ◌++◌, take, map, String, string_bytes, sym, subst, ap, ◌∙◌, arith}
use Rattle.std.specs.declared.alloc.Global.{Global}
use Rattle.std.proofs.lemmas.List.{take_all, take_more}
use Rattle.oci_dir.specs.Memory.{device_of}
use Rattle.oci_dir.proofs.Memory.{TheseSettled, settled-more, settles-both, settles-until}
use Rattle.oci_dir.proofs.mem_dir.MemDirDir.settle.Goals as goal

pub loop-path-preserved : goal.loop-path-preserved
loop-path-preserved c =
    let old = device_of c.args.self.now in
    let mid = device_of c.loop-path.self in
    let new = device_of c.settle_file.new.self in
    let i = c.loop-path.path-index in
    let paths = c.args.paths.now in
    let path = c.path-item.result in
    let were = c.loop-path.invariant in
    let more : take (i + 1) paths ≡ take i paths ++ path ∷ [] = take_more paths i path c.loop-path-test.true ∙ ap (λ (p : String Global). take i paths ++ p ∷ []) (sym c.path-item.is) in (
      settles-both old mid new were.0 c.settle_file.ensures.only,
      subst (TheseSettled new) (sym more) (settled-more mid new (take i paths) path tt c.settle_file.ensures.only were.1 (rw c.as_str.ensures.value at c.in_ok-settle_file.ensures.settled)),
    )

pub returns : goal.returns
returns c =
    let dir = device_of c.loop-path.self in
    let were = c.loop-path.invariant in
    record {
      only = were.0;
      settled = λ honest. subst (TheseSettled dir) (take_all c.loop-path.path-index c.args.paths.now (omega (arith, c.loop-path-test.false))) were.1;
      failed = λ f. cc f;
    }

pub returns-in_err-settle_file : goal.returns-in_err-settle_file
returns-in_err-settle_file c =
    let old = device_of c.args.self.now in
    let new = device_of c.settle_file.new.self in
    settles-until old new (map string_bytes c.args.paths.now) c.from_residual.result (settles-both old (device_of c.loop-path.self) new c.loop-path.invariant.0 c.settle_file.ensures.only) c.from_residual.ensures.1
