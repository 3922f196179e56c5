mod SearchSteps
mod RoundSteps
