-- The calls and reads of a host, as words are read, the engine answers and words are written: the complete answer, and what the stretches that it lends hold afterwards, refusals included.
use Rattle.std.specs.Prelude.{◌≡◌, Bool, true, if◌then◌else◌, ◌&&◌, List, [], ◌∷◌, ◌++◌, ℕ, ◌+◌, ◌*◌, length, ◌==◌, nat_le}
use Rattle.std.proofs.Math.Seq.{paste}
use Rattle.std.proofs.lemmas.List.Edits.{sets}
use Rattle.base.specs.Checks as checks
use Rattle.state.specs.declared.State.{State}
use Rattle.open.specs.Open.{closed_state}
use Rattle.preview.specs.Entries.{words_of}
use Rattle.critical.specs.Critical.{place_words}
use Rattle.spans.specs.Spans.{words_of as row_words}
use Rattle.serial.specs.Calls.{PortCall}
use Rattle.serial.specs.Serial.{early_checks}
use Rattle.engine.specs.Calls.{Aside, committee, effect, certificate, Call, opens, propose, endorse, certify, accept, advance, commit, enqueue, draw, port, aside}
use Rattle.engine.specs.Engine.{Engine, refusal_for, after}
use Rattle.engine.specs.Values.{Value, number, weights, shares, held, entries, places, rows, value_of}
use Rattle.words.specs.Lengths.{state_length, held_length, committee_length, effect_length}
use Rattle.words.specs.Words.{weight_words}
use Rattle.words.specs.Proposals.{held_words}
use Rattle.words.specs.Effects.{effect_words}
use Rattle.words.specs.States.{state_reads, state_in, state_words}

-- what a call comes to: the number that refuses it, 0 for none, a value, and the words of the state, the table and the out stretch afterwards
pub record Result : Type 0 where
  pub refusal : ℕ
  pub value : ℕ
  pub state : List ℕ
  pub table : List ℕ
  pub out : List ℕ

-- the two forms of an answer: the refusal's number, or the value in the low 32 bits and the refusal's number in the high ones
abbrev pub plain : Result → ℕ
plain x = x.refusal

abbrev pub packed : Result → ℕ
packed x = x.value + x.refusal * 4294967296

-- the answer r, and the stretches as they are afterwards, are those of a result
pub record Done (answer : Result → ℕ) (x : Result) (r : ℕ) (state table out : List ℕ) : Type 0 where
  pub its_answer : r ≡ answer x
  pub its_state : state ≡ x.state
  pub its_table : table ≡ x.table
  pub its_out : out ≡ x.out

-- ---- what a call does with the words that are lent

-- an open writes the state's words without reading them; propose, advance, commit and draw read and write them; what is asked of a port reads them after checks of its own; the others read them, and need so many words of an out stretch
pub data Use : Type 0 where
  writes : Use
  rewrites : Use
  accesses : PortCall → Use
  reads : ℕ → Use

-- how many words of the out stretch a read needs; a preview, the list of critical certificates and that of blocks test by themselves whether there are enough, and hosts are offered no listing of the chain
abbrev pub room_for : Aside → ℕ
room_for (committee r) = committee_length
room_for (effect m r a) = effect_length
room_for (certificate m r) = held_length
room_for c = 0

abbrev pub use_of : Call → Use
use_of (opens own sheet) = writes
use_of (propose b) = rewrites
use_of (endorse p) = reads 0
use_of (certify d) = reads 0
use_of (accept c) = reads 0
use_of advance = rewrites
use_of commit = rewrites
use_of (enqueue g x) = reads 0
use_of (draw v) = rewrites
use_of (port x) = accesses x
use_of (aside x) = reads (room_for x)

-- the number that refuses where words cannot be read: 1, and of a port the checks that come before it
abbrev pub unread : Use → ℕ
unread writes = 1
unread rewrites = 1
unread (accesses x) = checks.refusal (early_checks x ++ ((true, 1) ∷ []))
unread (reads n) = 1

-- the value of a packed answer; of what is listed its number
abbrev pub value_word : Value → ℕ
value_word (number n) = n
value_word (entries l) = length l
value_word (places l) = length l
value_word (rows l) = length l
value_word c = 0

-- the engine that the state's words and the table give
abbrev pub engine_in : List ℕ → List ℕ → Engine
engine_in w t = record { state = state_in w; table = t }

-- the state's words w, the table t and the out stretch o that are lent; where there is no out stretch it is empty
module _ (w t o : List ℕ) where
  -- ---- words are read

  -- the state's words serve the call, and there is room in the out stretch
  abbrev pub serves : Use → Bool
  serves writes = nat_le state_length (length w)
  serves rewrites = state_reads w
  serves (accesses x) = state_reads w
  serves (reads n) = state_reads w && nat_le n (length o)

  -- the engine that the call is made on
  abbrev pub engine_for : Use → Engine
  engine_for writes = record { state = closed_state; table = t }
  engine_for rewrites = engine_in w t
  engine_for (accesses x) = engine_in w t
  engine_for (reads n) = engine_in w t

  -- ---- words are written

  -- the state's words, where the call is accepted and leaves s
  abbrev pub state_over : Use → State → List ℕ
  state_over writes s = paste w 0 (state_words s) state_length
  state_over rewrites s = paste w 0 (state_words s) state_length
  state_over (accesses x) s = w
  state_over (reads n) s = w

  -- the out stretch; entries have three words each, places two, certificates of blocks eighteen, and its rest stays
  abbrev pub out_over : Value → List ℕ
  out_over (weights x) = paste o 0 (weight_words x) committee_length
  out_over (shares x) = paste o 0 (effect_words x) effect_length
  out_over (held p endorsers k) = paste o 0 (held_words p endorsers k) held_length
  out_over (entries l) = sets o 0 (words_of l)
  out_over (places l) = sets o 0 (place_words l)
  out_over (rows l) = sets o 0 (row_words l)
  out_over c = o

  -- ---- a call

  -- refused with the number n: no value, and nothing changes
  abbrev pub refused : ℕ → Result
  refused n = record { refusal = n; value = 0; state = w; table = t; out = o }

  -- the engine's answer
  abbrev pub answered : Engine → Call → Result
  answered e c =
      record {
        refusal = refusal_for e c;
        value = value_word (value_of e c);
        state = if refusal_for e c == 0 then state_over (use_of c) (after e c).state else w;
        table = (after e c).table;
        out = out_over (value_of e c);
      }

  -- every call and read; b tells whether the words that are handed in can be read: where they or those of the state cannot, it is refused
  unfoldable pub result_of : Bool → Call → Result
  result_of b c =
      if serves (use_of c) && b then answered (engine_for (use_of c)) c
      else refused (unread (use_of c))
