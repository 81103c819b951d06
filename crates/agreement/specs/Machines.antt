-- Machines: members that keep their view in a state of their own, and whose calls are moves; and what a list of their calls leads to.
use Rattle.std.specs.Prelude.{◌≡◌, Bool, true, if◌then◌else◌, List, [], ◌∷◌, ◌++◌, ◌⊎◌, ℕ, ◌==◌}
use Rattle.agreement.specs.Rules.{Rules}
use Rattle.agreement.specs.View.{View, World, Log, Among}
use Rattle.agreement.specs.Invariants.{Invariant, FaultTolerant}
use Rattle.agreement.specs.Moves.{Move}
use Rattle.agreement.specs.Entries.{Entry, states}

pub record Machine (R : Rules) (correct : ℕ → Bool) : Type 1 where
  pub State : Type 0
  pub Call : Type 0
  -- what a state shows
  pub view : State → View R
  -- the state after a call of member k, and what k signs by it: the proposal of an accepted propose or endorse
  pub after : ℕ → State → Call → State
  pub signs : ℕ → State → Call → List R.P
  -- what may be handed in
  pub Handed : ℕ → State → Call → Type 0
  -- what every such call keeps
  pub Good : ℕ → State → Type 0
  pub good_after : (k : ℕ) (s : State) (c : Call) → Handed k s c → Good k s → Good k (after k s c)
  -- no signature of a correct member that the call takes in is forged: they are in the log
  pub Genuine : Log R → ℕ → State → Call → Type 0
  -- every call is a move
  pub move : (G : Log R) (k : ℕ) (s : State) (c : Call) → correct k ≡ true → Good k s
      → Invariant correct G k (view s) (G k) → Handed k s c → Genuine G k s c
      → Move correct G k (view s) (G k) (view (after k s c)) (signs k s c ++ G k)

module _ {R : Rules} {correct : ℕ → Bool} (E : Machine R correct) (start : ℕ → E.State) where
  open R use {P}
  open E use {Call, view, after, signs, Handed, Genuine}

  -- what each member signed in a list of entries, newest first
  unfoldable pub log : List (Entry Call) → Log R
  log [] i = []
  log (e ∷ l) i = if i == e.who then signs i (states after start l i) e.call ++ log l i else log l i

  -- what the states show
  abbrev pub views : List (Entry Call) → World R
  views l i = view (states after start l i)

  -- an entry after l: a correct member makes a call that may be handed in, no signature is forged, and the faulty members stay within the bound
  pub record LegalNext (e : Entry Call) (l : List (Entry Call)) : Type 0 where
    pub by : correct e.who ≡ true
    pub handed : Handed e.who (states after start l e.who) e.call
    pub genuine : Genuine (log l) e.who (states after start l e.who) e.call
    pub tolerant : FaultTolerant correct (views (e ∷ l))

  abbrev pub Legal : List (Entry Call) → Type 0
  Legal [] = Unit {0}
  Legal (e ∷ l) = LegalNext e l × Legal l

  -- member i signed p in one of the calls
  abbrev pub SignedIn : P → ℕ → List (Entry Call) → Type 0
  SignedIn p i [] = ⊥
  SignedIn p i (e ∷ l) = ((i ≡ e.who) × Among p (signs i (states after start l i) e.call))
      ⊎ SignedIn p i l
