use Rattle.std.proofs.Common.{◌≡◌, ◌<◌, length, refl, ◌∙◌, sym, arith, rules}
use Rattle.std.proofs.lemmas.List.{get_or_past}
use Rattle.std.proofs.lemmas.Bool.{cases_lt}
use Rattle.sharing.specs.Places.{total, at_place}
use Rattle.sharing.specs.Rows.{weights}
use Rattle.sharing.specs.Shares.{SharedOut}
use Rattle.sharing.proofs.ByRank.{is_share_of, share_weightless}
use Rattle.sharing.proofs.Rounding.{none_left, both_fit, shared, only_shares, none_for_none}
use Rattle.sharing.proofs.Sums.{cases, zeros, upto_zero, by_place_past}
use Rattle.sharing.proofs.share.share_out.Goals as goal

pub returns-then-weight-eq0 : goal.returns-then-weight-eq0
returns-then-weight-eq0 g c =
    let none : total (weights g.P.Party.heft c.args.parties.now) ≡ 0 = sym (c.total-weight.ensures) ∙ c.if-weight-eq0.true in
    record {
      shared = record { carried = λ pos. absurd (omega arith); weightless = λ _. (zeros 64, refl) };
      only = λ pos. absurd (omega arith);
      value = λ i l. zeros 64 i ∙ sym (share_weightless _ c.args.amount none i);
      adds = let z = upto_zero _ 64 (λ i l. zeros 64 i) in omega arith;
      weightless = λ i _. zeros 64 i;
    }

pub added-requires : goal.added-requires
added-requires g c =
    let row = c.args.parties.now in
    let w = weights g.P.Party.heft row in
    let r = c.round_down-list.ensures in
    let h = c.hand_out-odd.ensures in
    let pos : 0 < total w = let e = c.total-weight.ensures in let n = c.if-weight-eq0.false in omega arith in
    let apart = r.rounded.below.apart in
    record {
      fits = λ i l.
          let f = both_fit w c.args.amount _ _ (length row.items.now) _ _ _ pos row.few (by_place_past g.P.Party.heft row.items.now) r.rounded r.left (h.handed apart) h.adds (h.exhausted apart) i l in
          omega arith;
    }

pub returns : goal.returns
returns g c =
    let row = c.args.parties.now in
    let w = weights g.P.Party.heft row in
    let a = c.args.amount in
    let r = c.round_down-list.ensures in
    let h = c.hand_out-odd.ensures in
    let pos : 0 < total w = let e = c.total-weight.ensures in let n = c.if-weight-eq0.false in omega arith in
    let apart = r.rounded.below.apart in
    let past = by_place_past g.P.Party.heft row.items.now in
    let s = at_place c.added.result in
    let none : c.hand_out-odd.result.uncarried ≡ 0 = none_left w a _ _ (length row.items.now) _ _ _ pos row.few past r.rounded r.left (h.handed apart) h.adds (h.exhausted apart) in
    let all : SharedOut w a s = shared w a _ _ (length row.items.now) _ _ _ pos row.few past r.rounded r.left (h.handed apart) h.adds (h.exhausted apart) s c.added.ensures in
    record {
      shared = record { carried = λ _. (all, none); weightless = λ z. absurd (omega arith) };
      only = λ _ other is i l. only_shares w a other s is all i l;
      value = is_share_of w a pos s all;
      adds = omega (arith, all.adds);
      weightless = λ i z. cases (cases_lt i 64) (λ l. none_for_none w a s pos all i l z) (λ far. get_or_past c.added.result i 0 (omega arith));
    }
