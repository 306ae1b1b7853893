-- What contracts see of the words that were read.
use Rattle.std.specs.Prelude.{option_map}
use Rattle.tpal_tool.specs.declared.request.Request.{Request}
use Rattle.tpal_tool.specs.declared.request.Request.TheVariants as asked
use Rattle.tpal_tool.specs.declared.request.ExecOptions as exec
use Rattle.tpal_tool.specs.declared.request.RunOptions.{RunOptions}
use Rattle.tpal_tool.specs.declared.request.Chosen as request
use Rattle.tpal_tool.specs.declared.request.Gathered.{Gathered}
use Rattle.tpal_tool.specs.declared.words.WordKind.{WordKind}
use Rattle.tpal_tool.specs.declared.words.WordKind.TheVariants as kind
use Rattle.tpal_tool.specs.declared.words.NextWord.{NextWord}
use Rattle.tpal_tool.specs.declared.words.NextWord.TheVariants as next
use Rattle.tpal_tool.specs.Words.{Options, ExecOptions, Command, Run, Compile, Sample, Exec}
use Rattle.tpal_tool.specs.Words.{Chosen, Given}
use Rattle.tpal_tool.specs.Words.{Kind, Positional, EndOfOptions, Show, ValueNext, ValueIs}
use Rattle.tpal_tool.specs.Words.{Unlisted, Due, AnyWord, ValueOf}

-- how a run goes
abbrev pub options_seen : RunOptions → Options
options_seen o =
    record { beat = o.beat; workers = o.workers; forks = o.forks; fuel = o.fuel; show = o.show }

-- how a run of a code goes
abbrev pub exec_options_seen : exec.ExecOptions → ExecOptions
exec_options_seen o = record { beat = o.beat; forks = o.forks; fuel = o.fuel; steps = o.steps }

-- the command that a value stands for
abbrev pub command_of : Request → Command
command_of (asked.Run run) =
    Run run.program.now (option_map (λ t. t.now) run.tables) (options_seen run.options)
command_of (asked.Compile program) = Compile program.now
command_of (asked.Sample sample) = Sample sample.seed (options_seen sample.options)
command_of (asked.Exec exec) =
    Exec exec.code.now (option_map (λ t. t.now) exec.tables) (exec_options_seen exec.options)

abbrev pub chosen_of : request.Chosen → Chosen
chosen_of c =
    record {
      beat = c.beat;
      workers = c.workers;
      forks = c.forks;
      fuel = c.fuel;
      steps = c.steps;
      show = c.show;
    }

abbrev pub given_of : Gathered → Given
given_of g =
    record {
      first_word = option_map (λ t. t.now) g.first_word;
      second_word = option_map (λ t. t.now) g.second_word;
      options = chosen_of g.options;
    }

abbrev pub kind_seen : WordKind → Kind
kind_seen kind.Positional = Positional
kind_seen kind.EndOfOptions = EndOfOptions
kind_seen kind.Show = Show
kind_seen (kind.ValueNext option) = ValueNext option
kind_seen (kind.ValueIs option value) = ValueIs option value.now
kind_seen kind.Unlisted = Unlisted

abbrev pub due_of : NextWord → Due
due_of next.Any = AnyWord
due_of (next.ValueOf option) = ValueOf option
