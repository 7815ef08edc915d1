pub mod ValueSteps
