use Rattle.std.proofs.Common.{◌≡◌, ◌++◌, ◌∷◌, [], true, false, List, sym, ap, ◌∙◌}
use Rattle.std.proofs.lemmas.Result.{on_ok_weaker}
use Rattle.oci_manifest.specs.Descriptor.{Descriptor}
use Rattle.oci_store.specs.Graph.{Node}
use Rattle.oci_store.specs.Visiting.{with_keys}
use Rattle.oci_layout_store.specs.Opened.{holds, is_there}
use Rattle.oci_layout_store.proofs.Walk.{absent_sound, absent_unheld, damaged_unheld, fault_damaged, held_lists, held_one, held_sound, none_damaged, none_held, one_damaged, unheld_lists, unheld_one}
use Rattle.oci_layout_store.specs.Stated.{AreLinksOf}
use Rattle.oci_layout_store.proofs.Stated.{stated_grown}
use Rattle.oci_layout_store.proofs.layout.walk.step.Goals as goal

-- ---- a held key

pub returns-in_ok-hold-in-Ok-Some-clause-visited : goal.returns-in_ok-hold-in-Ok-Some-clause-visited
returns-in_ok-hold-in-Ok-Some-clause-visited g c = λ honest.
    let file = (g.D.Dir.device c.args.dir.now).file in
    let k = c.args.key.now in
    let found : (holds c.args.as_is file k ≡ true) × AreLinksOf file k c.in-Ok-Some.links = rw c.in-Ok-Some.field-0-is at (c.in-Ok-Some.ensures.found honest) in
    c.in_ok-hold-in-Ok-Some.ensures.visited ∙ ap (λ (ks : List Descriptor). with_keys c.args.visited.now ks) (found.1.successors ∙ sym (held_lists c.args.as_is file k found.0))

pub returns-in_ok-hold-in-Ok-Some-clause-held : goal.returns-in_ok-hold-in-Ok-Some-clause-held
returns-in_ok-hold-in-Ok-Some-clause-held g c = λ honest fresh.
    let file = (g.D.Dir.device c.args.dir.now).file in
    let k = c.args.key.now in
    let found : (holds c.args.as_is file k ≡ true) × AreLinksOf file k c.in-Ok-Some.links = rw c.in-Ok-Some.field-0-is at (c.in-Ok-Some.ensures.found honest) in
    c.in_ok-hold-in-Ok-Some.ensures.held fresh ∙ ap (λ (ks : List Descriptor). c.args.held.now.graph ++ (k, ks) ∷ []) found.1.successors
    ∙ ap (λ (graph : List Node). c.args.held.now.graph ++ graph) (sym (held_one c.args.as_is file k found.0))

pub returns-in_ok-hold-in-Ok-Some-clause-damaged : goal.returns-in_ok-hold-in-Ok-Some-clause-damaged
returns-in_ok-hold-in-Ok-Some-clause-damaged g c = λ honest.
    let file = (g.D.Dir.device c.args.dir.now).file in
    let k = c.args.key.now in
    let found : (holds c.args.as_is file k ≡ true) × AreLinksOf file k c.in-Ok-Some.links = rw c.in-Ok-Some.field-0-is at (c.in-Ok-Some.ensures.found honest) in
    none_damaged c.args.as_is file k c.args.damaged.now.items (held_sound c.args.as_is file k found.0)

pub returns-in_ok-hold-in-Ok-Some-clause-good : goal.returns-in_ok-hold-in-Ok-Some-clause-good
returns-in_ok-hold-in-Ok-Some-clause-good g c = λ honest held. c.in-Ok-Some.ensures.good honest

pub returns-in_ok-hold-in-Ok-Some-clause-stated : goal.returns-in_ok-hold-in-Ok-Some-clause-stated
returns-in_ok-hold-in-Ok-Some-clause-stated g c = λ honest fresh are.
    let file = (g.D.Dir.device c.args.dir.now).file in
    let k = c.args.key.now in
    let links = c.in-Ok-Some.links in
    let old = c.args.held.now in
    let new = c.hold.new.held in
    let found : (holds c.args.as_is file k ≡ true) × AreLinksOf file k links = rw c.in-Ok-Some.field-0-is at (c.in-Ok-Some.ensures.found honest) in
    stated_grown file old.graph new.graph old.stated new.stated k links (c.in_ok-hold-in-Ok-Some.ensures.held fresh) (c.in_ok-hold-in-Ok-Some.ensures.stated fresh) found.1 are

-- ---- a key without a file

pub returns-in-Ok-None-clause-visited : goal.returns-in-Ok-None-clause-visited
returns-in-Ok-None-clause-visited g c = λ honest.
    let file = (g.D.Dir.device c.args.dir.now).file in
    let k = c.args.key.now in
    let gone : is_there file k ≡ false = rw c.in-Ok-None.field-0-is at (c.in-Ok-None.ensures.found honest) in
    sym (ap (λ (ks : List Descriptor). with_keys c.args.visited.now ks) (unheld_lists c.args.as_is file k (absent_unheld c.args.as_is file k gone)))

pub returns-in-Ok-None-clause-held : goal.returns-in-Ok-None-clause-held
returns-in-Ok-None-clause-held g c = λ honest fresh.
    let file = (g.D.Dir.device c.args.dir.now).file in
    let k = c.args.key.now in
    let gone : is_there file k ≡ false = rw c.in-Ok-None.field-0-is at (c.in-Ok-None.ensures.found honest) in
    none_held c.args.held.now.graph _ (unheld_one c.args.as_is file k (absent_unheld c.args.as_is file k gone))

pub returns-in-Ok-None-clause-damaged : goal.returns-in-Ok-None-clause-damaged
returns-in-Ok-None-clause-damaged g c = λ honest.
    let file = (g.D.Dir.device c.args.dir.now).file in
    let gone : is_there file c.args.key.now ≡ false = rw c.in-Ok-None.field-0-is at (c.in-Ok-None.ensures.found honest) in
    none_damaged c.args.as_is file c.args.key.now c.args.damaged.now.items (absent_sound c.args.as_is file c.args.key.now gone)

pub returns-in-Ok-None-clause-good : goal.returns-in-Ok-None-clause-good
returns-in-Ok-None-clause-good g c = λ honest held. c.in-Ok-None.ensures.good honest

-- ---- a key whose file is damaged

pub returns-in-Err-clause-visited : goal.returns-in-Err-clause-visited
returns-in-Err-clause-visited g c = on_ok_weaker c.pass_over.result (λ passed honest.
    (let dir = g.D.Dir.device c.args.dir.now in
    let k = c.args.key.now in
    let damaged = fault_damaged c.args.as_is dir k c.in-Err.fault passed.0 passed.1 honest c.in-Err.ensures.cause in
    sym (ap (λ (ks : List Descriptor). with_keys c.args.visited.now ks) (unheld_lists c.args.as_is dir.file k (damaged_unheld c.args.as_is dir.file k damaged))))) c.pass_over.ensures.passed

pub returns-in-Err-clause-held : goal.returns-in-Err-clause-held
returns-in-Err-clause-held g c = on_ok_weaker c.pass_over.result (λ passed honest fresh.
    (let dir = g.D.Dir.device c.args.dir.now in
    let k = c.args.key.now in
    let damaged = fault_damaged c.args.as_is dir k c.in-Err.fault passed.0 passed.1 honest c.in-Err.ensures.cause in
    none_held c.args.held.now.graph _ (unheld_one c.args.as_is dir.file k (damaged_unheld c.args.as_is dir.file k damaged)))) c.pass_over.ensures.passed

pub returns-in-Err-clause-damaged : goal.returns-in-Err-clause-damaged
returns-in-Err-clause-damaged g c = on_ok_weaker c.pass_over.result (λ passed honest.
    (let dir = g.D.Dir.device c.args.dir.now in
    let k = c.args.key.now in
    let damaged = fault_damaged c.args.as_is dir k c.in-Err.fault passed.0 passed.1 honest c.in-Err.ensures.cause in
    passed.2 ∙ one_damaged c.args.as_is dir.file k c.args.damaged.now.items damaged)) c.pass_over.ensures.passed

pub returns-in-Err-clause-good : goal.returns-in-Err-clause-good
returns-in-Err-clause-good g c = on_ok_weaker c.pass_over.result (λ passed honest held.
    (let dir = g.D.Dir.device c.args.dir.now in
    let k = c.args.key.now in
    let damaged = fault_damaged c.args.as_is dir k c.in-Err.fault passed.0 passed.1 honest c.in-Err.ensures.cause in
    let not : holds c.args.as_is dir.file k ≡ false = damaged_unheld c.args.as_is dir.file k damaged in
    cc (held, not))) c.pass_over.ensures.passed
