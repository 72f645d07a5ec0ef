mod CopiedClusters
mod LoadEndings
mod ResendSteps
mod Resent
