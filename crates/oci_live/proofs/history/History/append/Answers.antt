use Rattle.std.proofs.Common.{sym, ◌∙◌, ap}
use Rattle.oci_live.proofs.Appending.{appends_moves}
use Rattle.oci_live.proofs.history.History.append.Goals as goal

pub compare_exchange-found-requires : goal.compare_exchange-found-requires
compare_exchange-found-requires c =
    let self = c.args.self.now in
    let h = self.head_is in
    let offer = c.plain-offer.ensures in
    let pen = c.no_pen-pen.ensures in (
      ap (λ w. w.tracked) h,
      sym (ap (λ w. w.book) h),
      pen.0 ∙ sym (ap (λ w. w.book) h),
      offer.0,
      rw (ap (λ w. w.key) h, pen.1, offer.1, offer.3) (appends_moves self.front.log (c.args.key.now, c.args.bytes.now) self.len (sym self.len_is)),
    )
