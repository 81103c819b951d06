-- The premises can be met with draws, batches and guests' requests, and over words: the run of specs/Mixed is one.
use Rattle.std.proofs.Common.{◌≡◌, refl, sym, ap, ◌∙◌, subst, Bool, true, false, ◌&&◌, List, [], ◌∷◌, ℕ, arith, replicate, eqb, ltb, ltb-true, le-ltb}
use Rattle.base.proofs.Words.{false≢true}
use Rattle.std.specs.Prelude.{map}
use Rattle.std.proofs.Math.Seq.{paste}
use Rattle.base.specs.Checks.{refusal}
use Rattle.base.proofs.Bools.{both}
use Rattle.base.proofs.CheckLaws.{passes, passes-all}
use Rattle.base.specs.Folds.{tab, any_to, all_to, sum_to}
use Rattle.base.specs.Sets.{mem, contains, insert, is_empty}
use Rattle.agreement.specs.Places.{is_place, put, mark}
use Rattle.agreement.specs.Histories.{level, in_history}
use Rattle.agreement.specs.Commits.{in_chain, anchor_at, block_of, blocks_of, taken, committed}
use Rattle.agreement.specs.Entries as entries
use Rattle.agreement.specs.Entries.{states}
use Rattle.agreement.specs.Listing.{listing}
use Rattle.terms.specs.Bodies.{body_of}
use Rattle.terms.specs.Proposals.{slot_of, transactions_of, bad_transactions, all_in_range, bad_previous_set, same_proposal, same_transactions}
use Rattle.terms.specs.Transactions.{bond_in_range, same_transaction, read_transaction}
use Rattle.terms.specs.declared.rights.Right.TheVariants.{Propose, Sign}
use Rattle.terms.specs.Rights.{may, caller_refusal}
use Rattle.terms.specs.Sheets.{blank_weight, weight_at, filled}
use Rattle.terms.specs.Ranges.{not_within, out_of_range, weightless, weight_in}
use Rattle.queues.specs.Queues.{first_from, drawn, after_draws, transactions_in}
use Rattle.committee.specs.Changes.{changes, changes_of, row, rows}
use Rattle.committee.specs.Committees.{committee_by, leader_by, step_from, bonded_from, committee_of, start_of, ordered, known_by, bound_of, quorum_weight, outsider, short, quorum}
use Rattle.committee.specs.Positions.{count_below, member_below}
use Rattle.committee.specs.Leaders.{member_at, leader_of}
use Rattle.rules.specs.Tests.{committee_in, bad_round, signers_of, above, unknown, missing, unvoted}
use Rattle.rules.specs.Calls.{ruled_refusal, after, result}
use Rattle.rules.proofs.Runs.{Group, state_after, view_after, chain_after}
use Rattle.rules.proofs.RunTests.{is_made, is_signed, is_bounded, is_fair, is_run}
use Rattle.open.specs.Open.{open_refusal}
use Rattle.batch.specs.Turns.{answer_to, before, first_of, in_turn}
use Rattle.state.specs.WellFormed.{well_formed}
use Rattle.state.specs.Answers.{if_accepted}
use Rattle.batch.specs.Batch.{batch_checks, batch_refusal, batch_answers, answer_at}
use Rattle.engine.specs.Calls.{opens}
use Rattle.engine.specs.Engine.{Engine, refusal_for}
use Rattle.engine.specs.Engine as engine
use Rattle.nonforking.specs.Statement.{Members, Entry, engine_after, engine_behaviour, Run}
use Rattle.nonforking.specs.Witness.{settings, of}
use Rattle.nonforking.proofs.Witness.{settings-fit}
use Rattle.submissions.specs.Submissions.{Submission, accepts_of, engine_then, unrolled}
use Rattle.submissions.proofs.SubmissionLaws.{then-unrolled}
use Rattle.submissions.specs.Requests.{Request, asks, asks_batch, submitted, host_result}
use Rattle.words.specs.Bodies.{is_triple, triple_reads, body_reads, lone_body_reads, lone_triple_reads, slot_in, body_in, triple_in, used_of, used_words, body_words}
use Rattle.words.specs.Proposals.{proposal_reads, proposal_in, certificate_reads, certificate_in}
use Rattle.words.specs.Sheets.{sheet_reads, setting_in, sheet_in}
use Rattle.hosting.specs.Calls.{result_of}
use Rattle.hosting.specs.HostCalls.{port}
use Rattle.hosting.specs.GuestForms.{access}
use Rattle.batching.specs.Rows.{row_of, record_words, certificate_of}
use Rattle.library.specs.Calls.{LibraryCall, by_host, by_guest, Typed, request_in}
use Rattle.library.specs.Hosts.{Hosts, members, AllTyped, asked, calls_in}
use Rattle.witnesses.specs.Lines.{Line, record_of, answers_for, batched, library_calls, requests, submissions, answered}
use Rattle.engine.specs.Guests.{enqueue}
use Rattle.witnesses.specs.Mixed.{sheet_words, rights, bond, first, filling, signing, offered, offered_to_1, offering, with, run, calls, made, OpenedSo, MetWithADraw, MetWithBatches, MetWithGuests, MetOverWords}
use Rattle.witnesses.proofs.Queued.{Seen, beside_queues, in_queues, told, is_met, seen, answers-met, run-met, drawn-seen, by-seen}
use Rattle.witnesses.proofs.Counted.{are_by, counted, submits, unrolled-so, submitted-so, barred-so}

-- ---- the hosts

sheet-filled : (k : ℕ) → filled (sheet_in sheet_words (record { 0 = rights k })) ≡ settings
unfolding filled tab weight_at blank_weight sheet_in setting_in
sheet-filled k = refl

sheet-accepted : (k : ℕ) → ltb k 3 ≡ true → open_refusal (replicate 1360 0) (record { 0 = k }) (filled (sheet_in sheet_words (record { 0 = rights k }))) ≡ 0
unfolding open_refusal out_of_range not_within weightless any_to
sheet-accepted k h =
    let i = ltb-true k 3 h in
    rw (sheet-filled k) (passes 4 _ (le-ltb 15 k (omega arith)) ∙ passes 2 _ refl ∙ passes 3 _ refl ∙ passes 1 _ refl ∙ passes-all)

words-accepted : (k : ℕ) → ltb k 3 ≡ true → (result_of (replicate 39 0) (replicate 1360 0) [] (sheet_reads sheet_words) (opens (record { 0 = k }) (sheet_in sheet_words (record { 0 = rights k })))).refusal ≡ 0
unfolding result_of sheet_reads all_to
words-accepted k h = sheet-accepted k h

-- each is lent zeros, just long enough
abbrev hosts : Hosts
hosts =
    record {
      correct = λ i. ltb i 3;
      before = λ k. record { state = replicate 39 0; table = replicate 1360 0 };
      sheet = λ k. sheet_words;
      rights = rights;
      accepted = words-accepted;
      settings = settings;
      equal = λ k c. sheet-filled k;
    }

abbrev mine : Members engine_behaviour
mine = members hosts

opened_so : OpenedSo mine
unfolding sheet_in
opened_so = (refl, λ i. refl)

-- ---- the proof: all is computed on views and queues

abbrev views : Group settings (beside_queues settings)
views = in_queues mine settings-fit

record Computed : Type 0 where
  met : is_met mine settings-fit (answered run) ≡ true
  met-filling : is_met mine settings-fit (answered filling) ≡ true
  met-signing : is_met mine settings-fit (answered signing) ≡ true
  met-offering : is_met mine settings-fit (answered offering) ≡ true
  drawn : body_of 0 (transactions_in (drawn settings.allowance (state_after views (told (answered filling)) 0).0)) ≡ body_of 0 (bond ∷ [])
  listed_by_0 : listing (ordered settings) (chain_after views (told (answered run)) 0) ≡ made (bond ∷ [])
  listed_by_1 : listing (ordered settings) (chain_after views (told (answered run)) 1) ≡ made (bond ∷ [])
  weight_before : committee_in settings (view_after views (told (answered run)) 1) 3 0 ≡ 3
  weight_after : committee_in settings (view_after views (told (answered run)) 1) 4 0 ≡ 8

computed : Computed
unfolding transactions_of slot_of body_of first_from drawn after_draws tab states result ruled_refusal after put mark
    is_place refusal bad_transactions all_in_range bond_in_range bad_previous_set is_empty unknown known_by
    committee_of committee_by leader_by step_from bonded_from start_of ordered rows row changes_of changes above
    missing quorum outsider short quorum_weight bound_of any_to sum_to contains mem insert signers_of bad_round
    same_proposal same_transactions same_transaction unvoted anchor_at leader_of member_at member_below
    count_below in_chain block_of blocks_of taken committed level in_history listing is_made is_signed is_bounded
    is_fair is_run all_to
computed =
    record {
      met = refl;
      met-filling = refl;
      met-signing = refl;
      met-offering = refl;
      drawn = refl;
      listed_by_0 = refl;
      listed_by_1 = refl;
      weight_before = refl;
      weight_after = refl;
    }

-- the members, the sets and the rights
record Counts (l : List Line) : Type 0 where
  by-submissions : are_by mine.correct (submissions l) ≡ true
  by-requests : are_by mine.correct (requests l) ≡ true
  submits_them : submits mine (requests l) ≡ submissions l
  counts : counted (submissions l) ≡ calls l

counts_first : Counts first
unfolding sheet_in may caller_refusal refusal mem
counts_first = record { by-submissions = refl; by-requests = refl; submits_them = refl; counts = refl }

counts_signing : Counts signing
unfolding sheet_in may caller_refusal refusal mem
counts_signing = record { by-submissions = refl; by-requests = refl; submits_them = refl; counts = refl }

counts_offering : Counts offering
unfolding sheet_in may caller_refusal refusal mem accepts_of before first_of in_turn record_words certificate_of certificate_reads proposal_reads body_reads triple_reads is_triple certificate_in proposal_in body_in slot_in read_transaction body_words used_words used_of slot_of body_of tab all_to
counts_offering = record { by-submissions = refl; by-requests = refl; submits_them = refl; counts = refl }

counts_run : Counts run
unfolding sheet_in may caller_refusal refusal mem accepts_of before first_of in_turn record_words certificate_of certificate_reads proposal_reads body_reads triple_reads is_triple certificate_in proposal_in body_in slot_in read_transaction body_words used_words used_of slot_of body_of tab all_to
counts_run = record { by-submissions = refl; by-requests = refl; submits_them = refl; counts = refl }

-- nothing is asked of ports, so all values are of their types
abbrev asks_no_port : LibraryCall → Bool
asks_no_port (by_host (port x)) = false
asks_no_port (by_guest c (access a)) = false
asks_no_port c = true

abbrev ask_no_port : List (entries.Entry LibraryCall) → Bool
ask_no_port [] = true
ask_no_port (x ∷ l) = asks_no_port x.call && ask_no_port l

typed_one : (c : LibraryCall) → asks_no_port c ≡ true → Typed c
typed_one (by_host (port x)) h = absurd (false≢true h)
typed_one (by_guest c (access a)) h = absurd (false≢true h)
typed_one c h = tt

typed-all : (l : List (entries.Entry LibraryCall)) → ask_no_port l ≡ true → AllTyped l
typed-all [] h = tt
typed-all (x ∷ l) h = let k = both (asks_no_port x.call) (ask_no_port l) h in (typed_one x.call k.0, typed-all l k.1)

-- the words of the library's calls
asked-so : asked (library_calls run) ≡ requests run
unfolding asked request_in lone_body_reads lone_triple_reads certificate_reads proposal_reads body_reads triple_reads is_triple certificate_in proposal_in body_in triple_in slot_in read_transaction body_words used_words used_of slot_of body_of tab all_to
asked-so = refl

-- ---- what is so

module _ (l : List Line) (n : Counts l) (met : is_met mine settings-fit (answered l) ≡ true) where
  run-so : Run mine (calls l)
  run-so = run-met mine settings-fit (answered l) met

  run-counted : Run mine (counted (submissions l))
  run-counted = subst (Run mine) (sym n.counts) run-so

  unrolled_so : unrolled mine (submissions l) ≡ calls l
  unrolled_so = unrolled-so mine (submissions l) n.by-submissions run-counted ∙ n.counts

  by-submits : are_by mine.correct (submits mine (requests l)) ≡ true
  by-submits = subst (λ (m : List (entries.Entry Submission)). are_by mine.correct m ≡ true) (sym n.submits_them) n.by-submissions

  run-submits : Run mine (counted (submits mine (requests l)))
  run-submits = subst (λ (m : List (entries.Entry Submission)). Run mine (counted m)) (sym n.submits_them) run-counted

  submitted_so : submitted mine (requests l) ≡ submissions l
  submitted_so = submitted-so mine (requests l) n.by-requests by-submits run-submits ∙ n.submits_them

-- guest 5 of member 0 may not propose, and guest 1 of member 1 not sign
lacks_enqueue : (eqb (caller_refusal (mine.sheet 0).rights Propose 5) 0 ≡ false) × (caller_refusal (mine.sheet 0).rights Propose 5 ≡ 29)
unfolding sheet_in may caller_refusal refusal mem
lacks_enqueue = (refl, refl)

lacks_batch : (eqb (caller_refusal (mine.sheet 1).rights Sign 1) 0 ≡ false) × (caller_refusal (mine.sheet 1).rights Sign 1 ≡ 29)
unfolding sheet_in may caller_refusal refusal mem
lacks_batch = (refl, refl)

premises : Run mine (calls run)
premises = run-so run counts_run computed.met

pub met_with_a_draw : (X : Members engine_behaviour) × MetWithADraw X (bond ∷ [])
met_with_a_draw =
    let c = computed.met in
    let at : (i : ℕ) → ltb i 3 ≡ true → Seen settings i (engine_after mine (calls run) i) (state_after views (told (answered run)) i) = seen mine settings-fit (answered run) c in (
      mine,
      record {
        correct = λ i. refl;
        opened = opened_so;
        premises = premises;
        answers = answers-met mine settings-fit (answered run) c;
        drawn = drawn-seen (seen mine settings-fit (answered filling) computed.met-filling 0 refl) 0 ∙ computed.drawn;
        listed_by_0 = by-seen (at 0 refl) (λ S x. listing (ordered S) x ≡ made (bond ∷ [])) computed.listed_by_0;
        listed_by_1 = by-seen (at 1 refl) (λ S x. listing (ordered S) x ≡ made (bond ∷ [])) computed.listed_by_1;
        weight_before = by-seen (at 1 refl) (λ S x. weight_in (committee_of S x 3) 0 ≡ 3) computed.weight_before;
        weight_after = by-seen (at 1 refl) (λ S x. weight_in (committee_of S x 4) 0 ≡ 8) computed.weight_after;
      },
    )

-- a batch's answers are those of its accepts, each on what the one before leaves
three : {x y z : ℕ} → x ≡ 11 → y ≡ 0 → z ≡ 0 → x ∷ y ∷ z ∷ [] ≡ 11 ∷ 0 ∷ 0 ∷ []
three p q r = rw (p, q, r) refl

answers-by_place : (e : Engine) → well_formed e.state e.table ≡ true
    → refusal_for e (of 1 1 (with 0) 9) ≡ 0 → refusal_for (engine.after e (of 1 1 (with 0) 9)) (of 3 1 (with 0) 3) ≡ 0
    → refusal_for (engine.after (engine.after e (of 1 1 (with 0) 9)) (of 3 1 (with 0) 3)) (of 3 2 (with 7) 3) ≡ 11
    → (host_result e (batched offered)).answers ≡ 11 ∷ 0 ∷ 0 ∷ []
unfolding batch_answers batch_refusal if_accepted answer_to before first_of in_turn record_words certificate_of certificate_reads proposal_reads body_reads triple_reads is_triple certificate_in proposal_in body_in slot_in read_transaction body_words used_words used_of slot_of body_of tab all_to
answers-by_place e f a b c =
    ap (λ (n : ℕ). if_accepted n (paste (replicate 3 0) 0 (tab (answer_at e.state (row_of (map record_of offered)) e.table) 3) 3) (replicate 3 0)) (passes 1 (batch_checks 3 3) (rw f refl) ∙ passes 25 _ refl ∙ passes-all)
    ∙ three c b a

-- of member 0
tried :
    (refusal_for (engine_after mine (calls signing) 0) (of 1 1 (with 0) 9) ≡ 0)
    × (refusal_for (engine.after (engine_after mine (calls signing) 0) (of 1 1 (with 0) 9)) (of 3 1 (with 0) 3) ≡ 0)
    × (refusal_for (engine.after (engine.after (engine_after mine (calls signing) 0) (of 1 1 (with 0) 9)) (of 3 1 (with 0) 3)) (of 3 2 (with 7) 3) ≡ 11)
unfolding states
tried = let a = answers-met mine settings-fit (answered offering) computed.met-offering in (a.1.1.0, a.1.0, a.0)

pub met_with_batches : (X : Members engine_behaviour) × MetWithBatches X (11 ∷ 0 ∷ 0 ∷ [])
met_with_batches =
    let e : engine_then mine (submissions signing) 0 ≡ engine_after mine (calls signing) 0 =
    then-unrolled mine (submissions signing) 0 ∙ ap (λ (l : List Entry). engine_after mine l 0) (unrolled_so signing counts_signing computed.met-signing) in
    let f = (seen mine settings-fit (answered signing) computed.met-signing 0 refl).good.formed in (
      mine,
      record {
        correct = λ i. refl;
        opened = opened_so;
        premises = subst (Run mine) (sym (unrolled_so run counts_run computed.met)) premises;
        counts = unrolled_so run counts_run computed.met;
        answers = answers-met mine settings-fit (answered run) computed.met;
        by_place = subst (λ (d : Engine). (host_result d (batched offered)).answers ≡ 11 ∷ 0 ∷ 0 ∷ []) (sym e) (answers-by_place (engine_after mine (calls signing) 0) f tried.0 tried.1 tried.2);
      },
    )

pub met_with_guests : (X : Members engine_behaviour) × MetWithGuests X 29
met_with_guests = (
  mine,
  record {
    correct = λ i. refl;
    opened = opened_so;
    premises = subst (λ (l : List (entries.Entry Submission)). Run mine (unrolled mine l)) (sym (submitted_so run counts_run computed.met)) (subst (Run mine) (sym (unrolled_so run counts_run computed.met)) premises);
    submits = submitted_so run counts_run computed.met;
    answers = answers-met mine settings-fit (answered run) computed.met;
    barred_enqueue = barred-so mine (requests first) counts_first.by-requests (by-submits first counts_first computed.met-filling) (run-submits first counts_first computed.met-filling) 0 refl 5 (asks (enqueue bond)) lacks_enqueue.0 ∙ lacks_enqueue.1;
    barred_batch = barred-so mine (requests offering) counts_offering.by-requests (by-submits offering counts_offering computed.met-offering) (run-submits offering counts_offering computed.met-offering) 1 refl 1 (asks_batch (row_of (map record_of offered_to_1)) (answers_for offered_to_1)) lacks_batch.0 ∙ lacks_batch.1;
  },
)

pub met_over_words : (X : Hosts) × MetOverWords X (calls run)
met_over_words =
    let e : calls_in hosts (library_calls run) ≡ calls run =
    ap (λ (l : List (entries.Entry Request)). unrolled mine (submitted mine l)) asked-so ∙ ap (unrolled mine) (submitted_so run counts_run computed.met) ∙ unrolled_so run counts_run computed.met in (
      hosts,
      record {
        correct = λ i. refl;
        handed = λ i. (refl, refl);
        typed = typed-all (library_calls run) refl;
        premises = subst (Run mine) (sym e) premises;
        counts = e;
        answers = answers-met mine settings-fit (answered run) computed.met;
      },
    )
