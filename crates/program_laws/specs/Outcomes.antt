-- Which outcomes the act of a label may have. Beside these, an act may end the run.
use Rattle.std.specs.Prelude.{◌≡◌, ◌≢◌, ◌⊎◌}
use Rattle.csub_semantics.specs.declared.label.EndRule.{EndRule}
use Rattle.csub_semantics.specs.declared.label.EndRule.TheVariants.{Start}
use Rattle.csub_objects.specs.Types.{Name}
use Rattle.csub_semantics.specs.Labels.{LabelTree, exits, branches, switches, halts, calls}
use Rattle.csub_semantics.specs.Points.{ExitTree, next, on_true, on_false}
use Rattle.csub_semantics.specs.Acts.{Outcome, leaves, gives, pushes, pops, ends}

-- the run ends
abbrev pub Ends : Outcome → Type 0
Ends (ends t s) = Unit {0}
Ends o = ⊥

-- control leaves along one of these ways out, or the run ends
abbrev pub LeavesBy : (ExitTree → Type 0) → Outcome → Type 0
LeavesBy Q (leaves x r s) = Q x
LeavesBy Q o = Ends o

-- a value is given, which decides the way out, or the run ends
abbrev pub Gives : Outcome → Type 0
Gives (gives v s) = Unit {0}
Gives o = Ends o

-- a frame of this function comes on top, or the run ends
abbrev pub Pushes : Name → Outcome → Type 0
Pushes f (pushes g s) = g ≡ f
Pushes f o = Ends o

-- the top frame goes, unless it is of `#start`, or the run ends
abbrev pub Pops : EndRule → Outcome → Type 0
Pops rule (pops r s) = rule ≢ Start
Pops rule o = Ends o

-- the only way out of a point that is no test
abbrev pub IsNext : ExitTree → Type 0
IsNext x = x ≡ next

-- the ways out of a test
abbrev pub IsOfTest : ExitTree → Type 0
IsOfTest x = (x ≡ on_true) ⊎ (x ≡ on_false)

-- a call pushes its callee, an exit pops its frame (that of `#start` ends the run), a test leaves along true or false, a
-- `switch` gives its value, an end of the run ends it, and all others leave along next
abbrev pub Fits : LabelTree → Outcome → Type 0
Fits (calls c) o = Pushes c.callee o
Fits (exits rule) o = Pops rule o
Fits (branches e) o = LeavesBy IsOfTest o
Fits (switches e) o = Gives o
Fits (halts e) o = Ends o
Fits l o = LeavesBy IsNext o
