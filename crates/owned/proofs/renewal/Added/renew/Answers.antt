use Rattle.std.proofs.Common.{◌≡◌, sym, ◌∙◌, ◌+◌, ◌-◌, ◌<◌, ◌≤◌, arith}
use Rattle.committee.specs.Chain.{chain_of}
use Rattle.committee.specs.Committees.{committee_of}
use Rattle.chain_committees.specs.Caches.{weights_at, words_at}
use Rattle.chain_committees.specs.Told.{blocks_in}
use Rattle.owned.proofs.RenewalLaws.{caches-take, caches-old, kept-old, known-at, after-old, committee-rest, kept-more, kept-known}
use Rattle.owned.specs.Known.{known_words}
use Rattle.owned.proofs.renewal.Added.renew.Goals.{then-ceiling-settings-via-then-ceiling-settings, then-ceiling-settings-via-else-ceiling-settings+then-ceiling-settings-2}
use Rattle.owned.proofs.renewal.Added.renew.Goals as goal

pub returns-then-ceiling-settings-clause-caches : goal.returns-then-ceiling-settings-clause-caches
returns-then-ceiling-settings-clause-caches c = let a = c.args.self.now in
    let h : a.chain.settings.now.ceiling ≤ a.chain.settings.now.lookback + a.last + 1 =
    elim c.then-ceiling-settings.branch [
      | then-ceiling-settings-via-then-ceiling-settings w ↦ omega (arith, w.if-ceiling-settings.true)
      | then-ceiling-settings-via-else-ceiling-settings+then-ceiling-settings-2 w ↦ omega (arith, w.if-ceiling-settings.false, w.if-ceiling-settings-2.true)
    ] in
    caches-old a c.args.kept.now h c.requires

pub fill_cache-requires : goal.fill_cache-requires
fill_cache-requires c = omega arith

pub renew_blocks-requires : goal.renew_blocks-requires
renew_blocks-requires c = let a = c.args.self.now in
    let s = a.chain.settings.now in
    let f = c.is_full.ensures c.if-not-is_full.false in
    let o = c.if-ceiling-settings-2.false in
    let b = f.0 in
    let k : weights_at c.args.kept.now (words_at 0 (s.lookback + a.last + 1)) ≡ committee_of s (chain_of s.ceiling a.chain.table.now a.earlier) (s.lookback + a.last + 1) =
    known-at s (chain_of s.ceiling a.chain.table.now a.earlier) a.last c.args.kept.now b (omega arith) (omega (arith, f.1)) c.requires in
    record {
      low = omega (arith, a.told.from, c.min-stop.ensures);
      high = omega (arith, c.min-stop.ensures);
      inside = omega (arith, c.min-stop.ensures);
      room = f.1;
      after = after-old a ((rw c.last.view_is at c.kept_at-weights.ensures) ∙ k);
      cached = kept-old a (omega arith) f.1 b c.requires;
    }

pub returns-then-not-is_full-clause-caches : goal.returns-then-not-is_full-clause-caches
returns-then-not-is_full-clause-caches c = let a = c.args.self.now in
    caches-take a.chain.settings.now (blocks_in a.chain) (known_words a.chain.settings.now a.top) (omega arith) c.fill_cache.ensures.caches

pub returns-then-top-end-clause-caches : goal.returns-then-top-end-clause-caches
returns-then-top-end-clause-caches c = let a = c.args.self.now in
    let s = a.chain.settings.now in
    let f = c.is_full.ensures c.if-not-is_full.false in
    let r = c.renew_blocks.ensures in
    let h : a.top + 1 < s.ceiling - s.lookback = omega (arith, c.if-top-end.true) in
    let e : c.min-stop.result ≡ a.top = omega (arith, c.min-stop.ensures, h) in
    let z : s.lookback + (a.top + 1) + 1 ≡ s.lookback + a.top + 2 = omega arith in
    let n = (rw e at r.count) ∙ sym a.told.count in
    let w = rw z at (committee-rest a (a.top + 1) c.renew_blocks.result (omega arith) n (rw e at r.after)) in
    let k = kept-more s (blocks_in a.chain) c.renew_blocks.new.weights (omega (arith, h, r.size, f.1)) c.keep.ensures.0 w (rw e at r.cached) in
    kept-known s (blocks_in a.chain) (s.lookback + a.top + 2 + 1) a.top (omega arith) (omega (arith, f.1, r.size, c.keep.auto.kept)) (rw (rw c.top.view_is at c.keep.ensures.1) k)

pub returns-else-top-end-clause-caches : goal.returns-else-top-end-clause-caches
returns-else-top-end-clause-caches c = let a = c.args.self.now in
    let s = a.chain.settings.now in
    let f = c.is_full.ensures c.if-not-is_full.false in
    let r = c.renew_blocks.ensures in
    let o = c.if-ceiling-settings-2.false in
    let h = c.if-top-end.false in
    kept-known s (blocks_in a.chain) (s.lookback + c.min-stop.result + 2) a.top (omega (arith, c.min-stop.ensures, h, o)) (omega (arith, f.1, r.size)) r.cached
