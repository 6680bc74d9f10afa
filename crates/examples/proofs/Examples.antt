-- The fourteen marked examples, as one computed check of the definitions.
use mathlib.Core.Path.{refl}
use Rattle.requests.specs.Framing.{least_size, holds_record, frame_of}
use Rattle.requests.specs.Requests.{step_start, step_deliver, step_query, step_of}
use Rattle.requests.specs.Lines.{line_of}
use Rattle.requests.specs.Run.{lines_from}
use Rattle.examples.specs.Examples.{MarkedExamples}
use Rattle.examples.proofs.Compute.{calls-by-value}

pub marked-examples : MarkedExamples
unfolding calls-by-value least_size holds_record frame_of step_start step_deliver step_query step_of line_of lines_from
marked-examples = record { six-lines = refl; quorums = refl; notice = refl; silence = refl }
