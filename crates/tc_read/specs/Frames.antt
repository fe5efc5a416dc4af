-- What stands open, and where the reader stands, as the code has it.
use Rattle.std.specs.Prelude.{◌≡◌, ℕ, zero, suc, List, [], ◌∷◌, map, reverse}
use Rattle.std.specs.Prelude.{Option, Some, None}
use Rattle.tc_term.specs.Grammar as grammar
use Rattle.tc_read.specs.Machine as machine
use Rattle.tc_read.specs.Kept.{Kept, Large, kept}
use Rattle.tc_read.specs.Views.{operator_view, token_view}
use Rattle.tc_read.specs.Items.{done_of}
use Rattle.tc_read.specs.declared.frames.Frame.{Frame}
use Rattle.tc_read.specs.declared.frames.Frame.TheVariants.{Between, Negated, Group, Args}
use Rattle.tc_read.specs.declared.frames.Frame.TheVariants.{Elements, Tail}
use Rattle.tc_read.specs.declared.frames.Stack.{Stack}
use Rattle.tc_read.specs.declared.frames.Step.{Step}
use Rattle.tc_read.specs.declared.frames.State.{State}
use Rattle.tc_read.specs.declared.frames.State.TheVariants.{Awaits, Holds, Ends}

-- the last item, which comes first here; where there is none, one that doesn't fit
abbrev pub top : List Kept → Kept
top [] = Large
top (k ∷ ks) = k

-- the items before the last
abbrev pub below : List Kept → List Kept
below [] = []
below (k ∷ ks) = ks

-- so many of the last items, the last one first
abbrev pub tops : ℕ → List Kept → List Kept
tops zero ks = []
tops (suc n) ks = top ks ∷ tops n (below ks)

-- the items before so many of the last
abbrev pub under : ℕ → List Kept → List Kept
under zero ks = ks
under (suc n) ks = under n (below ks)

-- the frames, innermost first, with their items
abbrev pub framed : List Frame → List Kept → List (machine.Frame Kept)
framed [] ks = []
framed (Between operator ∷ frames) ks =
    machine.Between (operator_view operator) (top ks) ∷ framed frames (below ks)
framed (Negated ∷ frames) ks = machine.Negated ∷ framed frames ks
framed (Group ∷ frames) ks = machine.Group ∷ framed frames ks
framed (Args name count ∷ frames) ks =
    machine.Args name (tops count ks) ∷ framed frames (under count ks)
framed (Elements count ∷ frames) ks =
    machine.Elements (tops count ks) ∷ framed frames (under count ks)
framed (Tail count ∷ frames) ks =
    machine.Tail (tops count ks) ∷ framed frames (under count ks)

-- the frames, innermost first
abbrev pub frames_of : Stack → List Frame
frames_of stack = reverse stack.frames.items

-- the items, the last one first
abbrev pub items_of : Stack → List Kept
items_of stack = done_of stack.items.items

-- the frames with one item more in the innermost, where others may follow it
abbrev pub counted_more : List Frame → Option (List Frame)
counted_more (Args name count ∷ frames) = Some (Args name (suc count) ∷ frames)
counted_more (Elements count ∷ frames) = Some (Elements (suc count) ∷ frames)
counted_more _ = None

-- the stack where a term is awaited
abbrev pub opened : Stack → List (machine.Frame Kept)
opened stack = framed (frames_of stack) (items_of stack)

-- the stack where a term has been read
abbrev pub opened_below : Stack → List (machine.Frame Kept)
opened_below stack = framed (frames_of stack) (below (items_of stack))

-- the stack in this state
abbrev pub opened_in : State → Stack → List (machine.Frame Kept)
opened_in Awaits stack = opened stack
opened_in (Holds priority) stack = opened_below stack
opened_in Ends stack = opened_below stack

abbrev pub standing : State → Stack → machine.Standing Kept
standing Awaits stack = machine.Awaits
standing (Holds priority) stack = machine.Holds (top (items_of stack)) priority
standing Ends stack = machine.Ends (top (items_of stack))

-- the step where the last item is whole, inside this frame, which was taken off
abbrev pub close_in : Frame → Stack → List grammar.Token → machine.MachineStep Kept
close_in frame stack ts = machine.close kept
    (framed (frame ∷ frames_of stack) (below (items_of stack))) (top (items_of stack)) ts

-- the tokens that are left
abbrev pub tokens_left : Step → List grammar.Token
tokens_left step = map token_view step.rest.now

-- the step that the machine makes: none, or the one that leads there
abbrev pub IsMove : machine.MachineStep Kept → Stack → Option Step → Type 0
IsMove move stack None = move ≡ machine.Refused
IsMove move stack (Some step) = move
    ≡ machine.Goes_to (opened_in step.state stack) (standing step.state stack) (tokens_left step)
