-- Straight after a batch, proved: a certificate that got 11 gets 11 again, or 17 where the row has since filled its place with another.
use Rattle.std.proofs.Common.{◌≡◌, refl, sym, ap, ◌∙◌, subst, Bool, true, false, cond, true≢false, List, ◌∷◌, ◌++◌, append_assoc, ◌⊎◌, inl, inr, ℕ, ◌<◌, ◌≤◌, arith, Option, Some, None}
use Rattle.base.specs.Options.{if_there}
use Rattle.agreement.specs.Dag.{is_held}
use Rattle.terms.specs.declared.Certificate.{Certificate}
use Rattle.terms.specs.Proposals.{Content, content_of, same_proposal}
use Rattle.store.specs.Table.{held_at}
use Rattle.rules.specs.Calls.{ruled_refusal}
use Rattle.state.specs.declared.State.{State}
use Rattle.state.specs.WellFormed.{well_formed}
use Rattle.state.specs.View.{view}
use Rattle.state.proofs.ViewLaws.{in_dag, held-dag}
use Rattle.accept.specs.Accept.{accept_refusal, accept_table}
use Rattle.batch.specs.Turns.{Key, leaves}
use Rattle.batch.specs.Order.{earlier, OneTurnEach}
use Rattle.batch.proofs.OrderLaws.{each_has_one_turn, round-of-earlier}
use Rattle.batch.proofs.AnswerLaws.{Parts, leaves-join, leaves-one, turns_keep, turn-parts, turn_low, turn-later, answer-once}
use Rattle.batch.specs.Batch.{Row, turns_of, number_on, table_after, tried_table, answer_at, batch_refusal}
use Rattle.batch.specs.Again.{RowReads, FilledBy, AgainAs}
use Rattle.batch.proofs.BatchLaws.{accept_of, accept-ruled, accept-shows, accept-left, row-range, leaves-formed, refused-still, batch-passed}
use Rattle.batch.proofs.FrozenLaws.{Eleven, got_eleven, not_same, Filled, Frozen, frozen_same, accept-frozen, again-frozen}
use Rattle.state.specs.States.{own_body}

-- the proposal x stands in the row at a place whose turn is later than that of q, and was accepted there
record Later (s : State) (row : Row) (t : List ℕ) (q : ℕ) (x : Content) : Type 0 where
  place : ℕ
  certificate : Certificate
  content : x ≡ content_of certificate.proposal
  low : place < row.count
  offered : (row.at place).certificate ≡ Some certificate
  later : earlier (λ p. (row.at p).key) q place ≡ true
  accepted : answer_at s row t place ≡ 0

module _ (s : State) (low : (own_body s).previous < 65536) (row : Row) (reads : RowReads row) (t : List ℕ) (formed : well_formed s t ≡ true) (q : ℕ) (c : Certificate) (there : q < row.count)
    (offered : (row.at q).certificate ≡ Some c) (answer : answer_at s row t q ≡ 11) where
  abbrev keys : ℕ → Key
  keys p = (row.at p).key

  abbrev one_each : OneTurnEach keys row.count (turns_of row)
  one_each = each_has_one_turn keys row.count

  abbrev turn : Parts q (turns_of row)
  turn = turn-parts one_each q there

  -- the proposal of c, and its round
  abbrev proposal : Content
  proposal = content_of c.proposal

  abbrev round : ℕ
  round = c.proposal.round

  -- ---- the turn of q

  -- the table there
  abbrev table_then : List ℕ
  table_then = leaves (table_after s row) turn.former t

  then-formed : well_formed s table_then ≡ true
  then-formed = (leaves-formed s low row reads t formed turn.former).formed

  then-number : number_on s row table_then q ≡ 11
  then-number = sym (answer-once one_each turn.former q turn.latter turn.whole (table_after s row) (number_on s row) t) ∙ answer

  -- by the rules too c gets 11
  then-ruled : ruled_refusal s.settings s.own.0 (view s table_then) (accept_of c) ≡ 11
  then-ruled = sym (accept-ruled s table_then then-formed c) ∙ sym (ap (λ (o : Option Certificate). if_there o 1 (accept_refusal s table_then)) offered) ∙ then-number

  then_eleven : Eleven s.settings (view s table_then) proposal
  then_eleven = got_eleven s.settings s.own.0 (view s table_then) proposal c.endorsers then-ruled

  -- ---- the turns after it

  -- they start from there
  leaves_after : (l : List ℕ) → leaves (table_after s row) (turn.former ++ (q ∷ l)) t ≡ leaves (table_after s row) l table_then
  leaves_after l =
      leaves-join (table_after s row) turn.former (q ∷ l) t
      ∙ leaves-one (table_after s row) q l table_then
      ∙ ap (leaves (table_after s row) l) (refused-still s row table_then q (λ e. omega (arith, then-number)))

  -- what each leaves is well formed, and shows what was there but for certificates of the round of c and later ones
  record Kept (u : List ℕ) : Type 0 where
    its_formed : well_formed s u ≡ true
    frozen : Frozen s.settings (Later s row t q) round (view s table_then) (view s u)

  module _ (m : List ℕ) (p : ℕ) (rest : List ℕ) (e : turn.latter ≡ m ++ (p ∷ rest)) where
    -- the table at the turn of p
    abbrev table_now : List ℕ
    table_now = leaves (table_after s row) m table_then

    split : turns_of row ≡ (turn.former ++ (q ∷ m)) ++ (p ∷ rest)
    split = turn.whole ∙ ap (λ (l : List ℕ). turn.former ++ (q ∷ l)) e ∙ sym (append_assoc turn.former (q ∷ m) (p ∷ rest))

    now-answer : answer_at s row t p ≡ number_on s row table_now p
    now-answer = answer-once one_each (turn.former ++ (q ∷ m)) p rest split (table_after s row) (number_on s row) t ∙ ap (λ (u : List ℕ). number_on s row u p) (leaves_after m)

    now-later : earlier keys q p ≡ true
    now-later = turn-later one_each turn.former q turn.latter turn.whole m p rest e

    turn-kept : Kept table_now → Kept (table_after s row table_now p)
    turn-kept k = go (row.at p).certificate refl
      where
        go : (o : Option Certificate) → (row.at p).certificate ≡ o → Kept (if_there o table_now (accept_table s table_now))
        go None i = k
        go (Some d) i =
            let r = row-range reads p d i in
            record {
              its_formed = (accept-left s table_now k.its_formed d low r).formed;
              frozen = subst (Frozen s.settings (Later s row t q) round (view s table_then)) (sym (accept-shows s table_now k.its_formed d low r))
                  (accept-frozen s.settings s.own.0 round then_eleven.from (view s table_then) (view s table_now) k.frozen (content_of d.proposal) d.endorsers not_before brought);
            }
          where
            not_before : round ≤ d.proposal.round
            not_before =
                let h = round-of-earlier keys q p now-later in
                let a = ap (λ (z : Key). z.round) (reads.keyed q c offered) in
                let b = ap (λ (z : Key). z.round) (reads.keyed p d i) in
                omega arith

            brought : ruled_refusal s.settings s.own.0 (view s table_now) (accept_of d) ≡ 0 → Later s row t q (content_of d.proposal)
            brought h =
                record {
                  place = p;
                  certificate = d;
                  content = refl;
                  low = turn_low one_each (turn.former ++ (q ∷ m)) p rest split;
                  offered = i;
                  later = now-later;
                  accepted = now-answer ∙ ap (λ (o : Option Certificate). if_there o 1 (accept_refusal s table_now)) i ∙ accept-ruled s table_now k.its_formed d ∙ h;
                }

  -- ---- the end

  abbrev table_left : List ℕ
  table_left = tried_table s row t

  left-kept : Kept table_left
  left-kept =
      subst Kept (sym (ap (λ (l : List ℕ). leaves (table_after s row) l t) turn.whole ∙ leaves_after turn.latter))
      (turns_keep (table_after s row) Kept turn.latter table_then turn-kept (record { its_formed = then-formed; frozen = frozen_same s.settings (Later s row t q) round (view s table_then) }))

  left-held : is_held ((view s table_left).dag proposal.author round) ≡ held_at table_left proposal.author round
  left-held = held-dag s.settings.ceiling table_left proposal.author round then_eleven.from then_eleven.to

  -- where the place of c is held, it was filled
  filled-by : Filled s.settings (Later s row t q) round (view s table_then) ((view s table_left).dag proposal.author round) → (i : ℕ) × (d : Certificate) × FilledBy s row t q c i d
  filled-by f =
      let y = f.by in
      let d = in_dag s.settings.ceiling table_left proposal.author round f.content f.held in
      let n = not_same s.settings round (view s table_then) proposal f.content then_eleven.lacks f.whole in (
        y.place,
        y.certificate,
        record {
          place = y.low;
          offered = y.offered;
          later = y.later;
          accepted = y.accepted;
          same_author = sym (ap (λ (x : Content). x.author) y.content) ∙ d.author;
          same_round = sym (ap (λ (x : Content). x.round) y.content) ∙ d.round;
          held = sym d.content ∙ y.content;
          another = subst (λ (x : Content). same_proposal proposal x ≡ false) y.content n;
        },
      )

  again : AgainAs s row t q c
  again =
      record {
        number = accept-ruled s table_left left-kept.its_formed c
            ∙ again-frozen s.settings (Later s row t q) s.own.0 (view s table_then) (view s table_left) proposal c.endorsers then-ruled left-kept.frozen
            ∙ ap (λ (b : Bool). cond b 17 11) left-held;
        filled = λ h. go (left-held ∙ h) (left-kept.frozen.here proposal.author);
      }
    where
      go : is_held ((view s table_left).dag proposal.author round) ≡ true
          → ((view s table_left).dag proposal.author round ≡ (view s table_then).dag proposal.author round)
          ⊎ Filled s.settings (Later s row t q) round (view s table_then) ((view s table_left).dag proposal.author round)
          → (i : ℕ) × (d : Certificate) × FilledBy s row t q c i d
      go h (inl e) = absurd (true≢false (sym h ∙ ap is_held e ∙ then_eleven.free))
      go h (inr f) = filled-by f

-- of an accepted batch
pub eleven_again_or_seventeen : (s : State) (t : List ℕ) (row : Row) (room : ℕ) → RowReads row → (own_body s).previous < 65536 → batch_refusal s t row.count room ≡ 0
    → (q : ℕ) (c : Certificate) → q < row.count → (row.at q).certificate ≡ Some c → answer_at s row t q ≡ 11 → AgainAs s row t q c
eleven_again_or_seventeen s t row room reads low h q c there offered answer = again s low row reads t (batch-passed s t row.count room h).0 q c there offered answer
